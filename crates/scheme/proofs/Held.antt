-- What the pages hold: each sector's place has its ledger line, and what is to be programmed next is blank.
use Rattle.std.proofs.Common.{◌≡◌, ℕ, ◌+◌, ◌-◌, ◌*◌, ◌/◌, ◌<◌, ◌≤◌, true, eqb, ◌≢◌, List, [], ◌∷◌, map, length, get_or, is_some, Some, None, Option, sym, refl, ap, ◌∙◌, inl, inr, arith}
use lib.Arith.{digits_div}
use Rattle.std.specs.List.{AllByRecursion}
use Rattle.std.proofs.ByRecursion.{All-append, All-weaker, All-get_or}
use Rattle.std.proofs.lemmas.List.{length-map}
use Rattle.std.proofs.lemmas.Bool.{cond_both, cases_eq, eq-eqb, ne_eqb, eqb-false}
use Rattle.flash.specs.Meaning.{Flash, Page, blank}
use Rattle.scheme.specs.Functions.{upd}
use Rattle.scheme.specs.Place.{Place, place, entry_of}
use Rattle.scheme.specs.Roles as spec
use Rattle.scheme.specs.Roles.{Event, Change}
use Rattle.scheme.specs.Steps.{merged, page_of, merge, Fresh, transfer, turn}
use Rattle.scheme.specs.Tables.{Sequential, stale_all}
use Rattle.scheme.specs.Work.{each, line, State, erase_all, ◌then◌, retable}
use Rattle.scheme.proofs.Changes.{role_told}
use Rattle.scheme.proofs.Entries.{entry_stale}
use Rattle.scheme.proofs.Merges.{merged_led, Merge, released_is, released_own, released_other, ρ', merged_to, merged_roles, marked_free, to_inside, dead_inside}
use Rattle.scheme.proofs.Plain.{with_pages, erased}
use Rattle.scheme.proofs.Roles.{Use, free, data_of, sequential, random, Roles, data_same, unlike, place_busy, place_apart, place_inside, place_page}
use Rattle.scheme.proofs.Updates.{upd_same, upd_other, upd_both}
use Rattle.scheme.proofs.Works.{Does, does_then, does_to, does_idle, does_table, erase_does, paged, row, source, FreshMarked, copies_does}

pub record Held (P L : ℕ) (l : ℕ → Option (List ℕ)) (s : State) : Type 0 where
  pub view : (c o : ℕ) → c < L → o < P → line (page_of P s c o) ≡ l (c * P + o)
  pub behind : (c o : ℕ) → c < L → o < P → is_some (line (s.flash.page (s.tables.data_block c) o)) ≡ is_some (l (c * P + o))
  pub seq_log : (k : Sequential) → s.tables.sequential ≡ Some k → (o : ℕ) → o < k.fill → is_some (l (k.owner * P + o)) ≡ true
  pub seq_tail : (k : Sequential) → s.tables.sequential ≡ Some k → (o : ℕ) → k.fill ≤ o → s.flash.page k.block o ≡ blank
  pub log_log : (n i : ℕ) → entry_of n 0 s.tables.entries ≡ Some i → is_some (l n) ≡ true
  pub log_tail : (q p : ℕ) → q < length s.tables.logs → p < P → length s.tables.entries ≤ q * P + p → s.flash.page (get_or s.tables.logs q 0) p ≡ blank
  pub free_blank : AllByRecursion (λ b. (p : ℕ) → s.flash.page b p ≡ blank) s.tables.free

-- blocks erased one after the other
pub wiped : Flash → List ℕ → Flash
wiped f [] = f
wiped f (b ∷ bs) = wiped (erased f b) bs

pub wiped_keeps : (f : Flash) (ds : List ℕ) (b : ℕ) → AllByRecursion (λ d. b ≢ d) ds → (wiped f ds).page b ≡ f.page b
unfolding wiped
wiped_keeps f [] b a = refl
wiped_keeps f (d ∷ ds) b a = wiped_keeps (erased f d) ds b a.1 ∙ upd_other f.page d (λ _. blank) b a.0

pub wiped_still : (f : Flash) (ds : List ℕ) (b : ℕ) → ((p : ℕ) → f.page b p ≡ blank) → (p : ℕ) → (wiped f ds).page b p ≡ blank
unfolding wiped
wiped_still f [] b h p = h p
wiped_still f (d ∷ ds) b h p =
    wiped_still (erased f d) ds b (λ p. upd_both f.page d (λ _. blank) b (λ r. r p ≡ blank) (λ _. refl) (λ _. h p)) p

pub wiped_blank : (f : Flash) (ds : List ℕ) → AllByRecursion (λ d. (p : ℕ) → (wiped f ds).page d p ≡ blank) ds
unfolding wiped
wiped_blank f [] = tt
wiped_blank f (d ∷ ds) = (wiped_still (erased f d) ds d (λ p. ap (λ (r : ℕ → Page). r p) (upd_same f.page d (λ _. blank))), wiped_blank (erased f d) ds)

pub erases_do : {P L B : ℕ} (ds : List ℕ) (s : State) → AllByRecursion (λ d. d < B) ds → AllByRecursion (λ d. (c o : ℕ) → c < L → o < P → (place P s.tables c o).block ≢ d) ds → Does P L B s (erase_all ds s) (record { flash = wiped s.flash ds; tables = s.tables }) (length ds)
unfolding wiped
erases_do [] s i a = does_idle s
erases_do (d ∷ ds) s i a =
    does_to (does_then (erase_all ds) (erase_does d s i.0 a.0) (erases_do ds (record { flash = erased s.flash d; tables = s.tables }) i.1 a.1)) refl (omega arith)

module _ (P L R B : ℕ) (ρ : ℕ → Use) (l m : ℕ → Option (List ℕ)) (s : State) (some : 0 < P)
    (ok : Roles P L R B ρ s.tables) (held : Held P L l s)
    (c to : ℕ) (rest dead : List ℕ) (mg : Merge L B ρ s.tables c to rest dead)
    (fill : ℕ → Page)
    (new : (o : ℕ) → o < P → line (fill o) ≡ m (c * P + o))
    (same : (n : ℕ) → n / P ≢ c → m n ≡ l n)
    (rest_blank : AllByRecursion (λ b. (p : ℕ) → s.flash.page b p ≡ blank) rest) where
  abbrev pub merge_end : State
  merge_end =
      record {
        flash = wiped (with_pages s.flash (upd s.flash.page to fill)) dead;
        tables = merged P c to rest dead s.tables;
      }

  pub roles : Roles P L R B (ρ' P L R B ρ s.tables some ok c to rest dead mg) (merged P c to rest dead s.tables)
  roles = merged_roles P L R B ρ s.tables some ok c to rest dead mg

  same_at : (d o : ℕ) → o < P → d ≢ c → m (d * P + o) ≡ l (d * P + o)
  same_at d o h ne = same (d * P + o) (rw (digits_div d h) ne)

  -- the new place of what was merged, and the old one of all else
  place_own : (o : ℕ) → o < P → place P (merged P c to rest dead s.tables) c o ≡ record { block = to; page = o }
  unfolding place
  place_own o h =
      rw (
        place,
        released_own c o s.tables.sequential,
        entry_stale (λ n. eqb (n / P) c) (c * P + o) 0 s.tables.entries,
        digits_div c h,
        eq-eqb c c refl,
        upd_same,
      ) refl

  place_other : (d o : ℕ) → o < P → d ≢ c → place P (merged P c to rest dead s.tables) d o ≡ place P s.tables d o
  unfolding place
  place_other d o h ne =
      rw (
        place,
        released_other c d o s.tables.sequential ne,
        entry_stale (λ n. eqb (n / P) c) (d * P + o) 0 s.tables.entries,
        digits_div d h,
        ne_eqb d c ne,
        upd_other s.tables.data_block c to d ne,
      ) refl

  -- the pages of the blocks that are neither merged into nor dead
  kept_row : (b : ℕ) → b ≢ to → AllByRecursion (λ d. b ≢ d) dead → merge_end.flash.page b ≡ s.flash.page b
  kept_row b n a =
      wiped_keeps (with_pages s.flash (upd s.flash.page to fill)) dead b a ∙ upd_other s.flash.page to fill b n

  to_row : merge_end.flash.page to ≡ fill
  to_row = wiped_keeps (with_pages s.flash (upd s.flash.page to fill)) dead to mg.to_alive ∙ upd_same s.flash.page to fill

  abbrev new_role : ℕ → Use
  new_role = ρ' P L R B ρ s.tables some ok c to rest dead mg

  to_role : new_role to ≡ data_of c
  to_role = merged_to P L R B ρ s.tables some ok c to rest dead mg

  dead_free : AllByRecursion (λ d. new_role d ≡ free) dead
  dead_free = marked_free (upd ρ to (data_of c)) dead

  role_row : (b : ℕ) (r : Use) → new_role b ≡ r → r ≢ data_of c → r ≢ free → merge_end.flash.page b ≡ s.flash.page b
  role_row b r e n f =
      kept_row b (λ i. n (sym e ∙ ap new_role i ∙ to_role)) (All-weaker (λ d. new_role d ≡ free) (λ d. b ≢ d) (λ d h i. f (sym e ∙ ap new_role i ∙ h)) dead dead_free)

  -- the page in the place of a sector of another logical block
  other_page : (d o : ℕ) → d < L → o < P → d ≢ c → page_of P merge_end d o ≡ page_of P s d o
  other_page d o h i ne =
      let a = place P (merged P c to rest dead s.tables) d o in
      let k : merge_end.flash.page a.block ≡ s.flash.page a.block =
      kept_row a.block (place_apart P L R B new_role (merged P c to rest dead s.tables) some roles d c o to h to_role ne)
      (All-weaker (λ x. new_role x ≡ free) (λ x. a.block ≢ x) (λ x e. place_busy P L R B new_role (merged P c to rest dead s.tables) some roles d o x h e) dead dead_free) in
      ap (λ (r : ℕ → Page). r a.page) k ∙ ap (λ (x : Place). s.flash.page x.block x.page) (place_other d o i ne)

  own_page : (o : ℕ) → o < P → page_of P merge_end c o ≡ fill o
  own_page o h = ap (λ (x : Place). merge_end.flash.page x.block x.page) (place_own o h) ∙ ap (λ (r : ℕ → Page). r o) to_row

  log_kept : (n i : ℕ) → entry_of n 0 (stale_all (λ n. eqb (n / P) c) s.tables.entries) ≡ Some i → (entry_of n 0 s.tables.entries ≡ Some i) × (n / P ≢ c)
  log_kept n i e =
      cond_both (eqb (n / P) c) None (entry_of n 0 s.tables.entries) (λ z. z ≡ Some i → (entry_of n 0 s.tables.entries ≡ Some i) × (n / P ≢ c))
      (λ _ e. let z : ◌≡◌ {A = ℕ} 0 1 = cc in absurd (omega arith)) (λ h e. (e, eqb-false (n / P) c h))
      (sym (entry_stale (λ n. eqb (n / P) c) n 0 s.tables.entries) ∙ e)

  pub merge_held : Held P L m merge_end
  merge_held =
      record {
        view = λ d o h i. elim (cases_eq d c) [
          | inl e ↦ rw e (ap line (own_page o i) ∙ new o i)
          | inr ne ↦ ap line (other_page d o h i ne) ∙ held.view d o h i ∙ sym (same_at d o i ne)
        ];
        behind = λ d o h i. elim (cases_eq d c) [
          | inl e ↦ rw (e, upd_same s.tables.data_block c to) (ap (λ (r : ℕ → Page). is_some (line (r o))) to_row ∙ ap is_some (new o i))
          | inr ne ↦ rw (upd_other s.tables.data_block c to d ne)
              (ap (λ (r : ℕ → Page). is_some (line (r o))) (other_data d h ne) ∙ held.behind d o h i ∙ ap is_some (sym (same_at d o i ne)))
        ];
        seq_log = λ k e o h.
            let r = released_is c s.tables.sequential k e in
            ap is_some (same_at k.owner o (omega (arith, ok.seq_fill k r.0)) r.1) ∙ held.seq_log k r.0 o h;
        seq_tail = λ k e o h.
            ap (λ (r : ℕ → Page). r o) (role_row k.block sequential (roles.seq_role k e) (unlike sequential (data_of c) (λ z. omega arith)) (unlike sequential free (λ z. omega arith)))
            ∙ held.seq_tail k (released_is c s.tables.sequential k e).0 o h;
        log_log = λ n i e. let r = log_kept n i e in ap is_some (same n r.1) ∙ held.log_log n i r.0;
        log_tail = λ q p h i j.
            ap (λ (r : ℕ → Page). r p) (role_row (get_or s.tables.logs q 0) random (All-get_or (λ b. new_role b ≡ random) s.tables.logs q 0 h roles.log_role) (unlike random (data_of c) (λ z. omega arith)) (unlike random free (λ z. omega arith)))
            ∙ held.log_tail q p h i (rw length-map at j);
        free_blank = All-append (λ b. (p : ℕ) → merge_end.flash.page b p ≡ blank) rest dead (blank_rest rest rest_blank mg.rest_away) (wiped_blank (with_pages s.flash (upd s.flash.page to fill)) dead);
      }
    where
      other_data : (d : ℕ) → d < L → d ≢ c → merge_end.flash.page (s.tables.data_block d) ≡ s.flash.page (s.tables.data_block d)
      other_data d h ne =
          role_row (s.tables.data_block d) (data_of d) (rw upd_other at (roles.data_role d h)) (λ z. ne (data_same d c z)) (unlike (data_of d) free (λ z. omega arith))

      blank_rest : (bs : List ℕ) → AllByRecursion (λ b. (p : ℕ) → s.flash.page b p ≡ blank) bs → AllByRecursion (λ b. b ≢ to) bs → AllByRecursion (λ b. (p : ℕ) → merge_end.flash.page b p ≡ blank) bs
      blank_rest [] h a = tt
      blank_rest (b ∷ bs) h a = (
        wiped_still (with_pages s.flash (upd s.flash.page to fill)) dead b (λ p. ap (λ (r : ℕ → Page). r p) (upd_other s.flash.page to fill b a.0) ∙ h.0 p),
        blank_rest bs h.1 a.1,
      )

  -- the merge as a whole: the block is blank from k on, and holds the offsets below k
  pub merge_does : (event : Event) (fresh : Option Fresh) (k : ℕ) → spec.after (role_told (ρ to)) event ≡ Some spec.stores_data → FreshMarked P L fresh → k ≤ P
      → ((o : ℕ) → k ≤ o → s.flash.page to o ≡ blank)
      → ((o : ℕ) → k ≤ o → o < P → (place P s.tables c o).block ≢ to)
      → row (source P fresh s c) (s.flash.page to) k (P - k) ≡ fill
      → Does P L B s (merge P event fresh c to k rest dead s) merge_end (length dead)
  unfolding merge
  merge_does event fresh k turns good h room away e =
      let cs : List Change = turn event to ∷ map (turn spec.erased) dead in
      let filled : State = paged s (upd s.flash.page to fill) in
      let copied : Does P L B s (each (transfer P fresh c to) k (P - k) s) filled 0 =
      does_to (copies_does P L B fresh c to k s (to_inside P L R B ρ s.tables some ok c to rest dead mg) good (λ o. place_inside P L R B ρ s.tables some ok c o mg.known) (λ o h. place_page P L R B ρ s.tables some ok c o h) room away (P - k) (omega arith)) (ap (λ (r : ℕ → Page). paged s (upd s.flash.page to r)) e) refl in
      let new : State = record { flash = filled.flash; tables = merged P c to rest dead s.tables } in
      let tabled : Does P L B s (each (transfer P fresh c to) k (P - k) s then (retable cs (merged P c to rest dead))) new 0 =
      does_then (retable cs (merged P c to rest dead)) copied (does_table filled new.tables cs (merged_led P L R B ρ s.tables some ok c to rest dead mg event turns)) in
      does_to
      (does_then (erase_all dead) tabled
      (erases_do dead new (dead_inside P L R B ρ s.tables some ok c to rest dead mg)
      (All-weaker (λ x. new_role x ≡ free) (λ x. (d o : ℕ) → d < L → o < P → (place P new.tables d o).block ≢ x)
      (λ x e d o h _. place_busy P L R B new_role new.tables some roles d o x h e) dead dead_free)))
      refl (omega arith)

-- the roles of the blocks and what the pages hold, together
pub record Inv (P L R B : ℕ) (l : ℕ → Option (List ℕ)) (s : State) : Type 0 where
  pub role : ℕ → Use
  pub roles : Roles P L R B role s.tables
  pub held : Held P L l s
