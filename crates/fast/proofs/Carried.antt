-- The steps of a loop that copies.
use Rattle.std.proofs.Common.{◌≡◌, ℕ, zero, suc, ◌+◌, ◌-◌, ◌<◌, ◌≤◌, true, false, eqb, List, [], ◌∷◌, length, get_or, drop, Some, None, Option, sym, refl, ap, ◌∙◌, subst, ap₂, arith}
use Rattle.std.proofs.lemmas.Bool.{eq-eqb}
use Rattle.flash.specs.Calls.{erased}
use Rattle.flash.specs.Meaning.{Flash, Page, blank, holds}
use Rattle.flash.specs.declared.numbers.Block.{Block}
use Rattle.scheme.specs.Roles.{Event, taken_as_data, finished}
use Rattle.scheme.specs.Steps.{Fresh, transfer, seen_of, merge, merge_free, merged, settle}
use Rattle.scheme.specs.Tables.{Tables, owned}
use Rattle.scheme.specs.Work.{State, Work, each, do_copy, do_program}
use Rattle.fast.specs.Leaves.{at, Copied, Left}
use Rattle.fast.specs.Views.{numbers, sw_view}
use Rattle.fast.specs.declared.tables.sequential.Sw.{Sw}

copy_tables : (x : Page) (to o : ℕ) (s : State) → (do_copy x to o s).after.tables ≡ s.tables
copy_tables blank to o s = refl
copy_tables (holds n st x) to o s = refl

copy_erases : (x : Page) (to o : ℕ) (s : State) → (do_copy x to o s).erases ≡ 0
copy_erases blank to o s = refl
copy_erases (holds n st x) to o s = refl

module _ (P : ℕ) (fresh : Option Fresh) (c to : ℕ) where
  pub transfer_tables : (o : ℕ) (s : State) → (transfer P fresh c to o s).after.tables ≡ s.tables
  transfer_tables o s =
      elim fresh as (λ f. (transfer P f c to o s).after.tables ≡ s.tables) [
        | None ↦ copy_tables (seen_of P s c o) to o s
        | Some x ↦
            elim (eqb o x.offset)
            as (λ b. (elim b as (λ _. Work) [ true ↦ do_program to o x.content s | false ↦ do_copy (seen_of P s c o) to o s ]).after.tables ≡ s.tables)
            [ true ↦ refl | false ↦ copy_tables (seen_of P s c o) to o s ]
      ]

  pub carried_tables : (k n : ℕ) (s : State) → (each (transfer P fresh c to) k n s).after.tables ≡ s.tables
  unfolding each
  carried_tables k zero s = refl
  carried_tables k (suc n) s = transfer_tables (k + n) (each (transfer P fresh c to) k n s).after ∙ carried_tables k n s

  pub carried_none : (k : ℕ) (f : Flash) (t : Tables) → Copied (each (transfer P fresh c to) k (k - k) (at f t)) f 0
  unfolding each
  carried_none k f t = let e : 0 ≡ k - k = omega arith in subst (λ n. Copied (each (transfer P fresh c to) k n (at f t)) f 0) e none
    where
      none : Copied (each (transfer P fresh c to) k 0 (at f t)) f 0
      none = record { flash = refl; copied = refl }

  pub carried_more : (k o : ℕ) (f d e : Flash) (t : Tables) (a r : ℕ) → k ≤ o
      → Copied (each (transfer P fresh c to) k (o - k) (at f t)) d a → Copied (transfer P fresh c to o (at d t)) e r
      → Copied (each (transfer P fresh c to) k (o + 1 - k) (at f t)) e (a + r)
  unfolding each
  carried_more k o f d e t a r h before next =
      let n = o - k in
      let w = each (transfer P fresh c to) k n (at f t) in
      let i : at d t ≡ w.after = ap₂ at before.flash (sym (carried_tables k n (at f t))) in
      let here : o ≡ k + n = omega arith in
      let q : Copied (transfer P fresh c to (k + n) w.after) e r =
      subst (λ s. Copied (transfer P fresh c to (k + n) s) e r) i (subst (λ m. Copied (transfer P fresh c to m (at d t)) e r) here next) in
      let m : suc n ≡ o + 1 - k = omega arith in
      subst (λ m. Copied (each (transfer P fresh c to) k m (at f t)) e (a + r)) m (more n w q refl before)
    where
      more : (n : ℕ) (w : Work) → Copied (transfer P fresh c to (k + n) w.after) e r → w ≡ each (transfer P fresh c to) k n (at f t) → Copied (each (transfer P fresh c to) k n (at f t)) d a → Copied (each (transfer P fresh c to) k (suc n) (at f t)) e (a + r)
      more n w q i b =
          let q' = subst (λ (v : Work). Copied (transfer P fresh c to (k + n) v.after) e r) i q in
          record { flash = q'.flash; copied = ap₂ (λ x y. x + y) b.copied q'.copied }

  transfer_erases : (o : ℕ) (s : State) → (transfer P fresh c to o s).erases ≡ 0
  transfer_erases o s =
      elim fresh as (λ f. (transfer P f c to o s).erases ≡ 0) [
        | None ↦ copy_erases (seen_of P s c o) to o s
        | Some x ↦
            elim (eqb o x.offset)
            as (λ b. (elim b as (λ _. Work) [ true ↦ do_program to o x.content s | false ↦ do_copy (seen_of P s c o) to o s ]).erases ≡ 0)
            [ true ↦ refl | false ↦ copy_erases (seen_of P s c o) to o s ]
      ]

  carried_erases : (k n : ℕ) (s : State) → (each (transfer P fresh c to) k n s).erases ≡ 0
  unfolding each
  carried_erases k zero s = refl
  carried_erases k (suc n) s = omega (arith, transfer_erases (k + n) (each (transfer P fresh c to) k n s).after, carried_erases k n s)

  -- a merge, by what its parts leave
  pub merged_one : (event : Event) (k n : ℕ) (f d e : Flash) (t u : Tables) (rest : List ℕ) (old : ℕ) → Copied (each (transfer P fresh c to) k (P - k) (at f t)) d n
      → u ≡ merged P c to rest (old ∷ []) t → e ≡ erased d old → Left (merge P event fresh c to k rest (old ∷ []) (at f t)) e u 1 n
  unfolding merge
  merged_one event k n f d e t u rest old copied i j =
      let w = each (transfer P fresh c to) k (P - k) (at f t) in
      let x = j ∙ ap (λ g. erased g old) copied.flash in
      let y = i ∙ ap (merged P c to rest (old ∷ [])) (sym (carried_tables k (P - k) (at f t))) in
      record { state = ap₂ at x y; erases = omega (arith, carried_erases k (P - k) (at f t)); copies = omega (arith, copied.copied) }

  pub merged_two : (event : Event) (k n : ℕ) (f d e g : Flash) (t u : Tables) (rest : List ℕ) (old log : ℕ) → Copied (each (transfer P fresh c to) k (P - k) (at f t)) d n
      → u ≡ merged P c to rest (old ∷ log ∷ []) t → e ≡ erased d old → g ≡ erased e log → Left (merge P event fresh c to k rest (old ∷ log ∷ []) (at f t)) g u 2 n
  unfolding merge
  merged_two event k n f d e g t u rest old log copied i j h =
      let w = each (transfer P fresh c to) k (P - k) (at f t) in
      let x = h ∙ ap (λ z. erased z log) (j ∙ ap (λ g. erased g old) copied.flash) in
      let y = i ∙ ap (merged P c to rest (old ∷ log ∷ [])) (sym (carried_tables k (P - k) (at f t))) in
      record { state = ap₂ at x y; erases = omega (arith, carried_erases k (P - k) (at f t)); copies = omega (arith, copied.copied) }

-- a merge into the first free block
module _ (P : ℕ) (fresh : Option Fresh) (c : ℕ) (free : List Block) (to : Block) (some : 0 < length free) (first : to.0 ≡ get_or (numbers free) 0 0) where
  front_merge : (xs : List Block) → 0 < length xs → (dead : List ℕ) (s : State) → merge P taken_as_data fresh c (get_or (numbers xs) 0 0) 0 (drop 1 (numbers xs)) dead s ≡ merge_free P fresh c (numbers xs) dead s
  front_merge [] h dead s = absurd (omega arith)
  front_merge (x ∷ xs) h dead s = refl

  pub merged_front : (n : ℕ) (f d e : Flash) (t u : Tables) (old : ℕ) → Copied (each (transfer P fresh c to.0) 0 (P - 0) (at f t)) d n
      → u ≡ merged P c (get_or (numbers free) 0 0) (drop 1 (numbers free)) (old ∷ []) t → e ≡ erased d old → Left (merge_free P fresh c (numbers free) (old ∷ []) (at f t)) e u 1 n
  merged_front n f d e t u old copied i j =
      let b = get_or (numbers free) 0 0 in
      subst (λ w. Left w e u 1 n) (front_merge free some (old ∷ []) (at f t))
      (merged_one P fresh c b taken_as_data 0 n f d e t u (drop 1 (numbers free)) old (subst (λ b. Copied (each (transfer P fresh c b) 0 (P - 0) (at f t)) d n) first copied) i j)

  pub merged_front_two : (n : ℕ) (f d e g : Flash) (t u : Tables) (old log : ℕ) → Copied (each (transfer P fresh c to.0) 0 (P - 0) (at f t)) d n
      → u ≡ merged P c (get_or (numbers free) 0 0) (drop 1 (numbers free)) (old ∷ log ∷ []) t → e ≡ erased d old → g ≡ erased e log → Left (merge_free P fresh c (numbers free) (old ∷ log ∷ []) (at f t)) g u 2 n
  merged_front_two n f d e g t u old log copied i j h =
      let b = get_or (numbers free) 0 0 in
      subst (λ w. Left w g u 2 n) (front_merge free some (old ∷ log ∷ []) (at f t))
      (merged_two P fresh c b taken_as_data 0 n f d e g t u (drop 1 (numbers free)) old log (subst (λ b. Copied (each (transfer P fresh c b) 0 (P - 0) (at f t)) d n) first copied) i j h)

-- a settle, by who owns the sequential log block
pub settles_owned : (P : ℕ) (fresh : Option Fresh) (c : ℕ) (s : State) (q : Option Sw) (k : Sw) (f : Flash) (u : Tables) (e n : ℕ)
    → s.tables.sequential ≡ sw_view q → q ≡ Some k → k.owner.0 ≡ c
    → Left (merge P finished fresh k.owner.0 k.block.0 k.fill s.tables.free (s.tables.data_block k.owner.0 ∷ []) s) f u e n → Left (settle P fresh c s) f u e n
unfolding settle
settles_owned P fresh c s q k f u e n h has own left =
    let i : owned c s.tables.sequential ≡ Some (record { owner = k.owner.0; block = k.block.0; fill = k.fill }) = rw (h, has, eq-eqb k.owner.0 c own) refl in
    rw (settle, i) (subst (λ c. Left (merge P finished fresh c k.block.0 k.fill s.tables.free (s.tables.data_block c ∷ []) s) f u e n) own left)

pub settles_free : (P : ℕ) (fresh : Option Fresh) (c : ℕ) (s : State) (f : Flash) (u : Tables) (e n : ℕ)
    → owned c s.tables.sequential ≡ None
    → Left (merge_free P fresh c s.tables.free (s.tables.data_block c ∷ []) s) f u e n → Left (settle P fresh c s) f u e n
unfolding settle
settles_free P fresh c s f u e n i left = rw (settle, i) left
