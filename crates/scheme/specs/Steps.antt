-- The steps of a write, and of format: each is a function from the state before to the work.
use Rattle.std.specs.Prelude.{ℕ, zero, suc, ◌+◌, ◌-◌, ◌*◌, ◌/◌, ◌%◌, true, false, cond, List, [], ◌∷◌, ◌++◌, map, length, drop, Some, None, Option, ◌==◌, nat_eq, nat_lt, slice_index_or}
use Rattle.flash.specs.Meaning.{Flash, Page, blank, holds}
use Rattle.scheme.specs.Functions.{upd}
use Rattle.scheme.specs.Place.{place, entry_place}
use Rattle.scheme.specs.Roles.{Event, Change, taken_as_data, taken_as_sequential, taken_as_random, finished, erased}
use Rattle.scheme.specs.Tables.{Tables, Sequential, live, stale, owned, released, stale_all, with_map, with_sequential, with_random, with_free, with_next}
use Rattle.scheme.specs.Work.{State, Work, idle, ◌then◌, each, retable, seen, do_program, do_copy, do_erase, erase_all}

-- A new page for one offset of a logical block.
pub record Fresh : Type 0 where
  pub offset : ℕ
  pub content : Page

abbrev pub turn : Event → ℕ → Change
turn e b = record { block = b; event = e }

module _ (P : ℕ) where
  -- the page in the place of offset o of logical block b
  abbrev pub page_of : State → ℕ → ℕ → Page
  page_of s b o = let a = place P s.tables b o in s.flash.page a.block a.page

  -- what the device shows of it
  abbrev pub seen_of : State → ℕ → ℕ → Page
  seen_of s b o = let a = place P s.tables b o in seen s.flash a.block a.page

  -- offset o of logical block c into page o of a block: the new page if there is one for it, else a copy, which keeps its mark
  abbrev pub transfer : Option Fresh → ℕ → ℕ → ℕ → State → Work
  transfer None c to o s = do_copy (seen_of s c o) to o s
  transfer (Some x) c to o s =
      elim (o == x.offset) [ true ↦ do_program to o x.content s | false ↦ do_copy (seen_of s c o) to o s ]

  -- the tables after a merge of logical block c into a block: it is c's data block, c is in no log any more, and the dead blocks stand
  -- behind the free ones
  abbrev pub merged : ℕ → ℕ → List ℕ → List ℕ → Tables → Tables
  merged c to rest dead t =
      with_map (upd t.data_block c to)
      (with_sequential (released c t.sequential)
      (with_random t.logs (stale_all (λ n. nat_eq (n / P) c) t.entries) (with_free (rest ++ dead) t)))

  -- logical block c merged into a block, which becomes its data block by an event and has its offsets below k already: the rest
  -- copied in order, the tables changed, and only then the dead blocks erased
  unfoldable pub merge : Event → Option Fresh → ℕ → ℕ → ℕ → List ℕ → List ℕ → State → Work
  merge event fresh c to k rest dead s =
      each (transfer fresh c to) k (P - k) s
      then retable (turn event to ∷ map (turn erased) dead) (merged c to rest dead)
      then erase_all dead

  -- logical block c merged into the first free block
  abbrev pub merge_free : Option Fresh → ℕ → List ℕ → List ℕ → State → Work
  merge_free fresh c [] dead s = idle s
  merge_free fresh c (f ∷ rest) dead s = merge taken_as_data fresh c f 0 rest dead s

  -- the newest page of each offset of logical block c brought together in one block: in the sequential log block if c owns it
  unfoldable pub settle : Option Fresh → ℕ → State → Work
  settle fresh c s =
      let t = s.tables in
      let old = t.data_block c in
      elim (owned c t.sequential) [
        | Some k ↦ merge finished fresh c k.block k.fill t.free (old ∷ []) s
        | None ↦ merge_free fresh c t.free (old ∷ []) s
      ]

  -- W0, the first write of a sector: into its data block
  unfoldable pub write_first : ℕ → ℕ → Page → State → Work
  write_first b o x s = do_program (s.tables.data_block b) o x s

  -- the first free block taken as sequential log block of b, with its page 0
  abbrev pub open_sequential : ℕ → Page → List ℕ → State → Work
  open_sequential b x [] s = idle s
  open_sequential b x (f ∷ rest) s =
      do_program f 0 x s
      then retable (turn taken_as_sequential f ∷ [])
      (λ t. with_sequential (Some (record { owner = b; block = f; fill = 1 })) (with_free rest t))

  abbrev pub settle_owner : Option Sequential → State → Work
  settle_owner None s = idle s
  settle_owner (Some k) s = settle None k.owner s

  -- W1, an overwrite of offset 0
  unfoldable pub write_start : ℕ → Page → State → Work
  write_start b x s = settle_owner s.tables.sequential s then (λ s. open_sequential b x s.tables.free s)

  -- sector n into page o of the sequential log block, its next
  unfoldable pub append_sequential : ℕ → ℕ → Page → Sequential → State → Work
  append_sequential n o x k s =
      do_program k.block o x s
      then retable [] (λ t.
      with_sequential (Some (record { owner = k.owner; block = k.block; fill = k.fill + 1 }))
      (with_random t.logs (stale_all (λ m. nat_eq m n) t.entries) t))

  -- W2, an overwrite of another offset of b, which owns the sequential log block: the next page, a later one, an earlier one
  unfoldable pub write_sequential : ℕ → ℕ → ℕ → Page → Sequential → State → Work
  write_sequential n b o x k s =
      let fresh = Some (record { offset = o; content = x }) in
      elim (o == k.fill) [
        | true ↦ append_sequential n o x k s
        | false ↦ elim (nat_lt k.fill o) [
          | true ↦ settle fresh b s
          | false ↦ merge_free fresh b s.tables.free (s.tables.data_block b ∷ k.block ∷ []) s
        ]
      ]

  -- entry i of the oldest random log block, the victim: a live one has its logical block settled
  abbrev pub visit : ℕ → State → Work
  visit i s = elim (slice_index_or s.tables.entries i stale) [ live n ↦ settle None (n / P) s | stale ↦ idle s ]

  -- the victim, which has no live entry any more, made free and erased
  abbrev pub retire : List ℕ → State → Work
  retire [] s = idle s
  retire (v ∷ rest) s =
      retable (turn erased v ∷ []) (λ t. with_random rest (drop P t.entries) (with_free (t.free ++ (v ∷ [])) t)) s
      then do_erase v

  unfoldable pub reclaim : State → Work
  reclaim s = each visit 0 P s then (λ s. retire s.tables.logs s)

  -- the first free block taken as last random log block
  abbrev pub take_log : List ℕ → State → Work
  take_log [] s = idle s
  take_log (f ∷ rest) s =
      retable (turn taken_as_random f ∷ []) (λ t. with_random (t.logs ++ (f ∷ [])) t.entries (with_free rest t)) s

  -- fewer than R random log blocks
  abbrev pub thinned : ℕ → State → Work
  thinned R s = elim (nat_lt (length s.tables.logs) R) [ true ↦ idle s | false ↦ reclaim s ]

  -- a blank page in the last of at most R random log blocks
  unfoldable pub make_room : ℕ → State → Work
  make_room R s =
      let t = s.tables in
      elim (nat_lt (length t.entries) (P * length t.logs)) [
        | true ↦ idle s
        | false ↦ thinned R s then (λ s. take_log s.tables.free s)
      ]

  -- sector n into that page
  unfoldable pub append_random : ℕ → Page → State → Work
  append_random n x s =
      let a = entry_place P s.tables.logs (length s.tables.entries) in
      do_program a.block a.page x s
      then retable [] (λ t. with_random t.logs (stale_all (λ m. nat_eq m n) t.entries ++ (live n ∷ [])) t)

  -- W3, any other overwrite
  unfoldable pub write_random : ℕ → ℕ → Page → State → Work
  write_random R n x s = make_room R s then append_random n x

  unfoldable pub overwrite : ℕ → ℕ → ℕ → ℕ → Page → State → Work
  overwrite R n b o x s =
      elim (o == 0) [
        | true ↦ write_start b x s
        | false ↦ elim (owned b s.tables.sequential) [ Some k ↦ write_sequential n b o x k s | None ↦ write_random R n x s ]
      ]

  -- the next stamp is used up
  abbrev pub stamped : State → Work
  stamped s = retable [] (λ t. with_next (t.next + 1) t) s

  -- an accepted write of sector n
  unfoldable pub write : ℕ → ℕ → List ℕ → State → Work
  write R n bytes s =
      let b = n / P in
      let o = n % P in
      let x = holds n s.tables.next bytes in
      elim (seen s.flash (s.tables.data_block b) o) [ blank ↦ write_first b o x s | holds _ _ _ ↦ overwrite R n b o x s ]
      then stamped

-- i, i + 1, .., n of them
abbrev pub rising : ℕ → ℕ → List ℕ
rising i zero = []
rising i (suc n) = i ∷ rising (suc i) n

-- logical block i has block i, and the rest are free
abbrev pub first_tables : ℕ → ℕ → ℕ → Tables
first_tables L blocks first =
    record {
      data_block = λ i. cond (nat_lt i L) i 0;
      sequential = None;
      logs = [];
      entries = [];
      free = rising L (blocks - L);
      next = first;
    }

-- every block erased once, in rising order
unfoldable pub formatted : ℕ → ℕ → Flash → Work
formatted L first f = each do_erase 0 f.blocks (record { flash = f; tables = first_tables L f.blocks first })
