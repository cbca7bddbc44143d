-- What a piece of work does: the state that it ends in, its erases, and that all it asks is sound; and the copy of a range of
-- offsets into a block.
use Rattle.std.proofs.Common.{◌≡◌, ℕ, zero, suc, ◌+◌, ◌*◌, ◌<◌, ◌≤◌, true, false, cond, eqb, ◌≢◌, List, [], length, Some, None, Option, sym, refl, ap, ◌∙◌, subst, ap₂, subst₂, inl, inr, arith}
use Rattle.std.specs.List.{AllByRecursion}
use Rattle.std.proofs.ByRecursion.{All-append}
use Rattle.std.proofs.lemmas.Bool.{cases_eq, eq-eqb, ne_eqb, lt-ltb}
use Rattle.flash.specs.Meaning.{Flash, Page, blank, holds}
use Rattle.scheme.specs.Asks.{Unrefused, Sound}
use Rattle.scheme.specs.Functions.{upd, sum_below}
use Rattle.scheme.specs.Place.{place}
use Rattle.scheme.specs.Roles.{led, Change, Led, role_of}
use Rattle.scheme.specs.Steps.{Fresh, page_of, seen_of, transfer}
use Rattle.scheme.specs.Tables.{Tables}
use Rattle.scheme.specs.Work.{each, State, Work, Moment, Ask, program, erase, idle, ◌then◌, retable, do_program, do_copy, do_erase, put_page}
use Rattle.scheme.proofs.Changes.{led_then}
use Rattle.scheme.proofs.Plain.{with_pages, programmed, erased, programs, programs_none, erases, sees}
use Rattle.scheme.proofs.Updates.{upd_same, upd_other, upd_both, upd_self, upd_twice}

-- a page that is blank, or has a sector number below n and 512 bytes
abbrev pub Marked : ℕ → Page → Type 0
Marked n blank = Unit {0}
Marked n (holds k t x) = (k < n) × (length x ≡ 512)

-- why the device accepts what is asked
abbrev pub Allowed : Moment → Type 0
Allowed m =
    let f = m.before.flash in
    elim m.ask [
      | program b p x ↦ (b < f.blocks) × (p < f.pages) × Marked 0xFFFFFFFF x × (f.page b p ≡ blank)
      | erase b ↦ (b < f.blocks) × (f.count b < f.life)
    ]

unrefused_ask : (s : State) (a : Ask) → Allowed (record { before = s; ask = a }) → Unrefused (record { before = s; ask = a })
unrefused_ask s (program b p blank) h = tt
unrefused_ask s (program b p (holds n t x)) h =
    let ne : n ≢ 0xFFFFFFFF = omega (arith, h.2.0) in
    rw (lt-ltb b s.flash.blocks h.0, lt-ltb p s.flash.pages h.1, eq-eqb (length x) 512 h.2.1, ne_eqb n 0xFFFFFFFF ne, h.3) refl
unrefused_ask s (erase b) h = rw (lt-ltb b s.flash.blocks h.0, lt-ltb (s.flash.count b) s.flash.life h.1) refl

pub unrefused : (m : Moment) → Allowed m → Unrefused m
unrefused m h = unrefused_ask m.before m.ask h

-- what becomes of the counts: e erases in all, of blocks below B, and no count falls
pub record Wears (B : ℕ) (f g : Flash) (e : ℕ) : Type 0 where
  pub same_blocks : g.blocks ≡ f.blocks
  pub same_pages : g.pages ≡ f.pages
  pub same_life : g.life ≡ f.life
  pub total : sum_below B g.count ≡ sum_below B f.count + e
  pub each_block : (b : ℕ) → g.count b ≤ f.count b + e
  pub never_less : (b : ℕ) → f.count b ≤ g.count b

pub wears_none : {B : ℕ} {f : Flash} (g : ℕ → ℕ → Page) → Wears B f (with_pages f g) 0
wears_none g = record { same_blocks = refl; same_pages = refl; same_life = refl; total = omega arith; each_block = λ b. omega arith; never_less = λ b. omega arith }

sum_past : (n : ℕ) (f : ℕ → ℕ) (b x : ℕ) → n ≤ b → sum_below n (upd f b x) ≡ sum_below n f
unfolding sum_below
sum_past zero f b x h = refl
sum_past (suc n) f b x h = let ne : n ≢ b = omega arith in rw (upd_other f b x n ne) (ap (λ k. k + f n) (sum_past n f b x (omega arith)))

sum_more : (n : ℕ) (f : ℕ → ℕ) (b : ℕ) → b < n → sum_below n (upd f b (f b + 1)) ≡ sum_below n f + 1
unfolding sum_below
sum_more zero f b h = absurd (omega arith)
sum_more (suc n) f b h =
    elim (cases_eq n b) [
      | inl e ↦ rw (e, upd_same f b (f b + 1)) (let w = sum_past b f b (f b + 1) (omega arith) in omega arith)
      | inr ne ↦ rw (upd_other f b (f b + 1) n ne) (let w = sum_more n f b (omega arith) in omega arith)
    ]

pub wears_one : {B : ℕ} {f : Flash} (b : ℕ) → b < B → Wears B f (erased f b) 1
wears_one {B} {f} b h =
    record {
      same_blocks = refl;
      same_pages = refl;
      same_life = refl;
      total = sum_more B f.count b h;
      each_block = λ c. upd_both f.count b (f.count b + 1) c (λ n. n ≤ f.count c + 1) (λ e. rw e (omega arith)) (λ _. omega arith);
      never_less = λ c. upd_both f.count b (f.count b + 1) c (λ n. f.count c ≤ n) (λ e. rw e (omega arith)) (λ _. omega arith);
    }

pub wears_then : {B : ℕ} {f g h : Flash} {d e : ℕ} → Wears B f g d → Wears B g h e → Wears B f h (d + e)
wears_then x y =
    record {
      same_blocks = y.same_blocks ∙ x.same_blocks;
      same_pages = y.same_pages ∙ x.same_pages;
      same_life = y.same_life ∙ x.same_life;
      total = omega (arith, x.total, y.total);
      each_block = λ b. omega (arith, x.each_block b, y.each_block b);
      never_less = λ b. omega (arith, x.never_less b, y.never_less b);
    }

-- the marks of all pages have sector numbers below n
abbrev pub Marks : ℕ → ℕ → Flash → Type 0
Marks n B f = (b p : ℕ) → b < B → Marked n (f.page b p)

-- a device that refuses nothing of what work of e erases asks: it has this geometry, good marks, and blocks that bear e erases
pub record Ready (P L B : ℕ) (f : Flash) (e : ℕ) : Type 0 where
  pub blocks : f.blocks ≡ B
  pub pages : f.pages ≡ P
  pub small : L * P ≤ 0xFFFFFFFF
  pub marks : Marks (L * P) B f
  pub spare : (b : ℕ) → b < B → f.count b + e ≤ f.life

pub record Done (P L B : ℕ) (s : State) (w : Work) (end : State) (e : ℕ) : Type 0 where
  pub ends : w.after ≡ end
  pub counts : w.erases ≡ e
  pub sound : AllByRecursion (Sound P L) w.asked
  pub allowed : AllByRecursion Allowed w.asked
  pub led : Led B s.tables w.changes end.tables
  pub wears : Wears B s.flash end.flash e
  pub marks : Marks (L * P) B end.flash

-- what a piece of work does on such a device
pub record Does (P L B : ℕ) (s : State) (w : Work) (end : State) (e : ℕ) : Type 0 where
  pub when : Ready P L B s.flash e → Done P L B s w end e

ready_less : {P L B : ℕ} {f : Flash} {e : ℕ} (d : ℕ) → d ≤ e → Ready P L B f e → Ready P L B f d
ready_less d h r = record { blocks = r.blocks; pages = r.pages; small = r.small; marks = r.marks; spare = λ b i. omega (arith, r.spare b i) }

ready_next : {P L B : ℕ} {f g : Flash} {d e : ℕ} → Ready P L B f (d + e) → Wears B f g d → Marks (L * P) B g → Ready P L B g e
ready_next r w m =
    record {
      blocks = w.same_blocks ∙ r.blocks;
      pages = w.same_pages ∙ r.pages;
      small = r.small;
      marks = m;
      spare = λ b i. omega (arith, r.spare b i, w.each_block b, w.same_life);
    }

pub does_then : {P L B : ℕ} {s : State} {w : Work} (g : State → Work) {S T : State} {d e : ℕ} → Does P L B s w S d → Does P L B S (g S) T e → Does P L B s (w then g) T (d + e)
does_then {P} {L} {B} {s} {w} g {S} {T} {d} {e} a b =
    record {
      when = λ r.
          let x = a.when (ready_less d (omega arith) r) in
          let y = b.when (ready_next r x.wears x.marks) in
          let c : Done P L B w.after (g w.after) T e = subst (λ z. Done P L B z (g z) T e) (sym x.ends) y in
          record {
            ends = c.ends;
            counts = ap₂ (λ x y. x + y) x.counts c.counts;
            sound = All-append (Sound P L) w.asked (g w.after).asked x.sound c.sound;
            allowed = All-append Allowed w.asked (g w.after).asked x.allowed c.allowed;
            led = λ b i. led_then b w.changes (g w.after).changes (role_of s.tables b) (role_of S.tables b) (role_of T.tables b) (x.led b i) (subst (λ (z : State). led b (g w.after).changes (role_of z.tables b) ≡ Some (role_of T.tables b)) x.ends (c.led b i));
            wears = wears_then x.wears y.wears;
            marks = y.marks;
          };
    }

pub does_to : {P L B : ℕ} {s : State} {w : Work} {S T : State} {d e : ℕ} → Does P L B s w S d → S ≡ T → d ≡ e → Does P L B s w T e
does_to {P} {L} {B} {s} {w} {S} {T} {d} {e} a i n = subst₂ (Does P L B s w) i n a

-- the tables alone change
pub does_table : {P L B : ℕ} (s : State) (t : Tables) (cs : List Change) → Led B s.tables cs t → Does P L B s (retable cs (λ _. t) s) (record { flash = s.flash; tables = t }) 0
does_table s t cs h =
    record { when = λ r. record { ends = refl; counts = refl; sound = tt; allowed = tt; led = h; wears = wears_none s.flash.page; marks = r.marks } }

pub does_idle : {P L B : ℕ} (s : State) → Does P L B s (idle s) s 0
does_idle s = does_table s s.tables [] (λ b i. refl)

-- the state with other pages
abbrev pub paged : State → (ℕ → ℕ → Page) → State
paged s g = record { flash = with_pages s.flash g; tables = s.tables }

-- the state after a program
abbrev pub put : State → ℕ → ℕ → Page → State
put s b p x = record { flash = programmed s.flash b p x; tables = s.tables }

with_flash : State → Flash → State
with_flash s f = record { flash = f; tables = s.tables }

weaken : (n : ℕ) (x : Page) → n ≤ 0xFFFFFFFF → Marked n x → Marked 0xFFFFFFFF x
weaken n blank h m = tt
weaken n (holds k t y) h m = (omega (arith, m.0), m.1)

-- the device takes the page
takes : (f : Flash) (b p n : ℕ) (x : Page) → b < f.blocks → p < f.pages → n ≤ 0xFFFFFFFF → f.page b p ≡ blank → Marked n x → put_page f b p x ≡ programmed f b p x
takes f b p n blank h i j e m = programs_none f b p e
takes f b p n (holds k t y) h i j e m = programs f b p k t y h i (omega (arith, m.0)) m.1 e

pub program_does : {P L B : ℕ} (b p : ℕ) (x : Page) (s : State) → b < B → p < P → s.flash.page b p ≡ blank → (Marks (L * P) B s.flash → Marked (L * P) x) → Does P L B s (do_program b p x s) (put s b p x) 0
unfolding with_flash
program_does {P} {L} {B} b p x s i j h g =
    record {
      when = λ r.
          let in_blocks : b < s.flash.blocks = omega (arith, r.blocks) in
          let in_pages : p < s.flash.pages = omega (arith, r.pages) in
          let m = g r.marks in
          record {
            ends = ap (with_flash s) (takes s.flash b p (L * P) x in_blocks in_pages r.small h m);
            counts = refl;
            sound = (h, tt);
            allowed = ((in_blocks, in_pages, weaken (L * P) x r.small m, h), tt);
            led = λ c k. refl;
            wears = wears_none (upd s.flash.page b (upd (s.flash.page b) p x));
            marks = λ c q l.
                upd_both s.flash.page b (upd (s.flash.page b) p x) c (λ r. Marked (L * P) (r q))
                (λ e. upd_both (s.flash.page b) p x q (Marked (L * P)) (λ _. m) (λ _. r.marks b q i)) (λ _. r.marks c q l);
          };
    }

pub copy_does : {P L B : ℕ} (x : Page) (b p : ℕ) (s : State) → b < B → p < P → s.flash.page b p ≡ blank → (Marks (L * P) B s.flash → Marked (L * P) x) → Does P L B s (do_copy x b p s) (put s b p x) 0
copy_does (holds n t y) b p s i j h g =
    let d = program_does b p (holds n t y) s i j h g in
    record { when = λ r. let e = d.when r in record { ends = e.ends; counts = refl; sound = e.sound; allowed = e.allowed; led = e.led; wears = e.wears; marks = e.marks } }
copy_does blank b p s i j h g =
    does_to (does_idle s) (ap (paged s) (sym (upd_self s.flash.page b (upd (s.flash.page b) p blank) (sym (upd_self (s.flash.page b) p blank h))))) refl

pub erase_does : {P L B : ℕ} (b : ℕ) (s : State) → b < B → ((c o : ℕ) → c < L → o < P → (place P s.tables c o).block ≢ b) → Does P L B s (do_erase b s) (record { flash = erased s.flash b; tables = s.tables }) 1
unfolding with_flash
erase_does {P} {L} {B} b s i h =
    record {
      when = λ r.
          let in_blocks : b < s.flash.blocks = omega (arith, r.blocks) in
          let young : s.flash.count b < s.flash.life = omega (arith, r.spare b i) in
          record {
            ends = ap (with_flash s) (erases s.flash b in_blocks young);
            counts = refl;
            sound = (h, tt);
            allowed = ((in_blocks, young), tt);
            led = λ c k. refl;
            wears = wears_one b i;
            marks = λ c q l. upd_both s.flash.page b (λ _. blank) c (λ r. Marked (L * P) (r q)) (λ _. tt) (λ _. r.marks c q l);
          };
    }

-- a row of pages with those from k on, n of them, from another source
pub row : (ℕ → Page) → (ℕ → Page) → ℕ → ℕ → ℕ → Page
row src base k zero = base
row src base k (suc n) = upd (row src base k n) (k + n) (src (k + n))

module _ (src base : ℕ → Page) (k : ℕ) where
  pub row_before : (n o : ℕ) → o < k → row src base k n o ≡ base o
  unfolding row
  row_before zero o h = refl
  row_before (suc n) o h = upd_other (row src base k n) (k + n) (src (k + n)) o (omega arith) ∙ row_before n o h

  pub row_after : (n o : ℕ) → k + n ≤ o → row src base k n o ≡ base o
  unfolding row
  row_after zero o h = refl
  row_after (suc n) o h = upd_other (row src base k n) (k + n) (src (k + n)) o (omega arith) ∙ row_after n o (omega arith)

  pub row_in : (n o : ℕ) → k ≤ o → o < k + n → row src base k n o ≡ src o
  unfolding row
  row_in zero o l h = absurd (omega arith)
  row_in (suc n) o l h =
      elim (cases_eq o (k + n)) [
        | inl e ↦ rw e (upd_same (row src base k n) (k + n) (src (k + n)))
        | inr ne ↦ upd_other (row src base k n) (k + n) (src (k + n)) o ne ∙ row_in n o l (omega arith)
      ]

module _ (P : ℕ) where
  -- what belongs at offset o of logical block c
  abbrev pub source : Option Fresh → State → ℕ → ℕ → Page
  source None s c o = page_of P s c o
  source (Some x) s c o = cond (eqb o x.offset) x.content (page_of P s c o)

  -- the mark of a new page
  abbrev pub FreshMarked : ℕ → Option Fresh → Type 0
  FreshMarked L None = Unit {0}
  FreshMarked L (Some x) = Marked (L * P) x.content

  -- what is seen on such a device
  seen_is : {L B : ℕ} (c o : ℕ) (s : State) (e : ℕ) → (place P s.tables c o).block < B → (place P s.tables c o).page < P → Ready P L B s.flash e → seen_of P s c o ≡ page_of P s c o
  seen_is c o s e h i r = sees s.flash (place P s.tables c o).block (place P s.tables c o).page (omega (arith, r.blocks)) (omega (arith, r.pages))

  copies_seen : {L B : ℕ} (c to o : ℕ) (s : State) → (place P s.tables c o).block < B → (place P s.tables c o).page < P → to < B → o < P → s.flash.page to o ≡ blank → Does P L B s (do_copy (seen_of P s c o) to o s) (put s to o (page_of P s c o)) 0
  copies_seen {L} {B} c to o s f g i j h =
      record {
        when = λ r.
            let d : Does P L B s (do_copy (page_of P s c o) to o s) (put s to o (page_of P s c o)) 0 = copy_does (page_of P s c o) to o s i j h (λ k. k (place P s.tables c o).block (place P s.tables c o).page f) in
            subst (λ x. Done P L B s (do_copy x to o s) (put s to o (page_of P s c o)) 0) (sym (seen_is c o s 0 f g r)) (d.when r);
      }

  pub transfer_does : {L B : ℕ} (fresh : Option Fresh) (c to o : ℕ) (s : State) → FreshMarked L fresh → (place P s.tables c o).block < B → (place P s.tables c o).page < P → to < B → o < P → s.flash.page to o ≡ blank → Does P L B s (transfer P fresh c to o s) (put s to o (source fresh s c o)) 0
  transfer_does None c to o s g f v i j h = copies_seen c to o s f v i j h
  transfer_does {L} {B} (Some x) c to o s g f v i j h =
      elim (eqb o x.offset)
      as (λ b. Does P L B s (elim b [ true ↦ do_program to o x.content s | false ↦ do_copy (seen_of P s c o) to o s ]) (put s to o (cond b x.content (page_of P s c o))) 0)
      [ true ↦ program_does to o x.content s i j h (λ _. g) | false ↦ copies_seen c to o s f v i j h ]

  -- a copy of the offsets from k on into a block that is blank from there, and in which none of them lies
  module _ (L B : ℕ) (fresh : Option Fresh) (c to k : ℕ) (s : State) (inside : to < B) (good : FreshMarked L fresh)
      (from : (o : ℕ) → (place P s.tables c o).block < B)
      (paged_in : (o : ℕ) → o < P → (place P s.tables c o).page < P)
      (room : (o : ℕ) → k ≤ o → s.flash.page to o ≡ blank)
      (away : (o : ℕ) → k ≤ o → o < P → (place P s.tables c o).block ≢ to) where
    abbrev pub filled_row : ℕ → ℕ → Page
    filled_row n = row (source fresh s c) (s.flash.page to) k n

    abbrev pub filled_to : ℕ → State
    filled_to n = paged s (upd s.flash.page to (filled_row n))

    same_source : (n o : ℕ) → k ≤ o → o < P → source fresh (filled_to n) c o ≡ source fresh s c o
    same_source n o l h =
        let e : page_of P (filled_to n) c o ≡ page_of P s c o = ap (λ (r : ℕ → Page). r (place P s.tables c o).page) (upd_other s.flash.page to (filled_row n) (place P s.tables c o).block (away o l h)) in
        elim fresh as (λ f. source f (filled_to n) c o ≡ source f s c o) [ None ↦ e | Some x ↦ ap (cond (eqb o x.offset) x.content) e ]

    pub copies_does : (n : ℕ) → k + n ≤ P → Does P L B s (each (transfer P fresh c to) k n s) (filled_to n) 0
    unfolding each row
    copies_does zero h = does_to (does_idle s) (ap (paged s) (sym (upd_self s.flash.page to (s.flash.page to) refl))) refl
    copies_does (suc n) h =
        does_to
        (does_then (transfer P fresh c to (k + n)) (copies_does n (omega arith))
        (transfer_does fresh c to (k + n) (filled_to n) good (from (k + n)) (paged_in (k + n) (omega arith)) inside (omega arith)
        (ap (λ (r : ℕ → Page). r (k + n)) (upd_same s.flash.page to (filled_row n)) ∙ row_after (source fresh s c) (s.flash.page to) k n (k + n) (omega arith) ∙ room (k + n) (omega arith))))
        (rw (same_source n (k + n) (omega arith) (omega arith), upd_same, upd_twice) refl)
        refl
