-- Blocks in a changed list, and live entries in a changed list.
use Rattle.std.proofs.Common.{◌≡◌, ℕ, zero, suc, ◌+◌, ◌/◌, ◌<◌, ◌≤◌, Bool, true, false, cond, eqb, ltb, ◌≢◌, List, [], ◌∷◌, ◌++◌, length, get_or, drop, set, Some, None, Option, deque_items, sym, refl, ap, ◌∙◌, ap₂, inl, inr, append_assoc, arith}
use Rattle.std.specs.Option.{IsSome}
use mathlib.Core.Path.{fun_ext}
use Rattle.std.proofs.lemmas.Bool.{cases_Bool, cases_eq, eq-eqb, ne_eqb, lt-ltb}
use Rattle.std.proofs.lemmas.List.{map-append, drop-map, get_or-map}
use Rattle.flash.specs.declared.numbers.Block.{Block}
use Rattle.scheme.specs.Functions.{upd}
use Rattle.scheme.specs.Roles.{Led, after, taken_as_data, taken_as_sequential, taken_as_random, finished, erased}
use Rattle.scheme.specs.Steps.{merged, turn}
use Rattle.scheme.specs.Tables.{Entry, live, stale, stale_all, Sequential, owned, released}
use Rattle.scheme.proofs.Updates.{upd_both}
use Rattle.fast.specs.Rules.{same, uses, uses_sw, busy, live_entries, OneRole, OneLive}
use Rattle.fast.specs.Views.{numbers, first_of, view, sw_view, entries_view}
use Rattle.fast.specs.declared.tables.Tables.{Tables}
use Rattle.fast.specs.declared.tables.random.Entry as code
use Rattle.fast.specs.declared.tables.sequential.Sw.{Sw}
use Rattle.fast.proofs.Leads.{role_by, role_counted, uses_at, leads_one, leads_two, leads_three}

pub uses_set : (b : ℕ) (xs : List Block) (i : ℕ) (x : Block) → i < length xs → uses b (set xs i x) + same b (get_or (numbers xs) i 0) ≡ uses b xs + same b x.0
uses_set b [] i x h = absurd (omega arith)
uses_set b (y ∷ xs) zero x h = omega arith
uses_set b (y ∷ xs) (suc i) x h = let r = uses_set b xs i x (omega arith) in omega arith

pub uses_push : (b : ℕ) (xs : List Block) (x : Block) → uses b (xs ++ (x ∷ [])) ≡ uses b xs + same b x.0
uses_push b [] x = omega arith
uses_push b (y ∷ xs) x = let r = uses_push b xs x in omega arith

pub uses_front : (b : ℕ) (xs : List Block) → 0 < length xs → uses b xs ≡ same b (get_or (numbers xs) 0 0) + uses b (drop 1 xs)
uses_front b [] h = absurd (omega arith)
uses_front b (x ∷ xs) h = refl

pub get_or_numbers : (xs : List Block) (i : ℕ) (x : Block) → i < length xs → x ≡ get_or xs i x → x.0 ≡ get_or (numbers xs) i 0
get_or_numbers xs i x h e = ap (λ (b : Block). b.0) e ∙ sym (get_or-map (λ b. b.0) xs i x 0 h)

pub numbers_push : (xs : List Block) (x : Block) → numbers (xs ++ (x ∷ [])) ≡ numbers xs ++ (x.0 ∷ [])
numbers_push xs x = map-append (λ b. b.0) xs (x ∷ [])

pub numbers_rest : (xs : List Block) → numbers (drop 1 xs) ≡ drop 1 (numbers xs)
numbers_rest xs = sym (drop-map (λ b. b.0) 1 xs)

at_set : (xs : List Block) (i : ℕ) (x : Block) → i < length xs → get_or (numbers (set xs i x)) i 0 ≡ x.0
at_set [] i x h = absurd (omega arith)
at_set (y ∷ xs) zero x h = refl
at_set (y ∷ xs) (suc i) x h = at_set xs i x (omega arith)

off_set : (xs : List Block) (i : ℕ) (x : Block) (k : ℕ) → k ≢ i → get_or (numbers (set xs i x)) k 0 ≡ get_or (numbers xs) k 0
off_set [] i x k n = refl
off_set (y ∷ xs) zero x zero n = absurd (n refl)
off_set (y ∷ xs) zero x (suc k) n = refl
off_set (y ∷ xs) (suc i) x zero n = refl
off_set (y ∷ xs) (suc i) x (suc k) n = off_set xs i x k (λ e. n (ap suc e))

-- the map with one block replaced
pub set_map : (xs : List Block) (i : ℕ) (x : Block) → i < length xs → (λ k. get_or (numbers (set xs i x)) k 0) ≡ upd (λ k. get_or (numbers xs) k 0) i x.0
set_map xs i x h =
    fun_ext (λ k. upd_both (λ k. get_or (numbers xs) k 0) i x.0 k (λ v. get_or (numbers (set xs i x)) k 0 ≡ v)
    (λ e. ap (λ n. get_or (numbers (set xs i x)) n 0) e ∙ at_set xs i x h) (λ n. off_set xs i x k n))

pub live_stale : (q : ℕ → Bool) (n : ℕ) (es : List Entry) → live_entries n (stale_all q es) ≤ live_entries n es
live_stale q n [] = omega arith
live_stale q n (stale ∷ es) = live_stale q n es
live_stale q n (live m ∷ es) =
    let r = live_stale q n es in
    elim (cases_Bool (q m)) [ inl h ↦ rw h (omega arith) | inr h ↦ rw h (omega arith) ]

pub not_released : (c : ℕ) (q : Option Sequential) → owned c q ≡ None → released c q ≡ q
not_released c None e = refl
not_released c (Some k) e =
    elim (cases_Bool (eqb k.owner c)) [
      | inl h ↦ let z : ◌≡◌ {A = Option Sequential} (Some k) None = rw h at e in let w : ◌≡◌ {A = ℕ} 0 1 = cc in absurd (omega arith)
      | inr h ↦ rw h refl
    ]

pub was_released : (c : ℕ) (k : Sequential) → k.owner ≡ c → released c (Some k) ≡ None
was_released c k e = rw eq-eqb refl

-- a data block replaced by the first free block
module _ (map : List Block) (logs free logs' free' : List Block) (i : ℕ) (new old : Block) (h : i < length map) (k : 0 < length free)
    (is_new : new.0 ≡ get_or (numbers free) 0 0) (is_old : old.0 ≡ get_or (numbers map) i 0)
    (same_logs : logs' ≡ logs) (new_free : free' ≡ drop 1 free ++ (old ∷ [])) where
  pub renewed_roles : (B : ℕ) (sw : Option Sw) → OneRole B map sw logs free → OneRole B (set map i new) sw logs' free'
  renewed_roles B sw r b =
      omega (
        arith,
        uses_set b map i new h,
        uses_front b free k,
        uses_push b (drop 1 free) old,
        r b,
        ap (uses b) same_logs,
        ap (uses b) new_free,
        ap (same b) is_new,
        ap (same b) is_old,
      )

  pub renewed_led : (B : ℕ) (sw : Option Sw) → OneRole B map sw logs free → (es es' : List code.Entry) (n n' : ℕ)
      → Led B (view map sw logs es free n) (turn taken_as_data (get_or (numbers free) 0 0) ∷ turn erased (get_or (numbers map) i 0) ∷ []) (view (set map i new) sw logs' es' free' n')
  renewed_led B sw r es es' n n' b lt =
      let one : cond {A = ℕ} (ltb b B) 1 0 ≡ 1 = ap (λ q. cond {A = ℕ} q 1 0) (lt-ltb b B lt) in
      let r₁ = r b in
      let a = uses_at b map i h in
      let f = uses_front b free k in
      let g = ap (uses b) new_free ∙ uses_push b (drop 1 free) old in
      let o = ap (same b) is_old in
      rw (role_counted map sw logs es free n b, role_counted (set map i new) sw logs' es' free' n' b, ap (uses b) same_logs)
      (leads_two taken_as_data (get_or (numbers free) 0 0) (get_or (numbers map) i 0) b (role_by (uses b free) (uses b logs) (uses_sw b sw)) (role_by (uses b free') (uses b logs) (uses_sw b sw))
      (λ x y. absurd (omega arith))
      (λ x y. taken (uses b free) (uses b logs) (uses_sw b sw) (uses b free') (omega arith) (omega arith) (omega arith) (omega arith))
      (λ x y. freed (uses b free) (uses b logs) (uses_sw b sw) (uses b free') (omega arith) (omega arith) (omega arith) (omega arith))
      (λ x y. ap (λ z. role_by z (uses b logs) (uses_sw b sw)) (omega arith)))
    where
      taken : (f l s g : ℕ) → f ≡ 1 → l ≡ 0 → s ≡ 0 → g ≡ 0 → after (role_by f l s) taken_as_data ≡ Some (role_by g l s)
      taken f l s g i j k e = rw (i, j, k, e) refl

      freed : (f l s g : ℕ) → f ≡ 0 → l ≡ 0 → s ≡ 0 → g ≡ 1 → after (role_by f l s) erased ≡ Some (role_by g l s)
      freed f l s g i j k e = rw (i, j, k, e) refl

  pub renewed_view : (P : ℕ) (sw : Option Sw) (entries entries' : List code.Entry) (next : ℕ) → owned i (sw_view sw) ≡ None
      → entries_view entries' ≡ stale_all (λ n. eqb (n / P) i) (entries_view entries)
      → view (set map i new) sw logs' entries' free' next ≡ merged P i (get_or (numbers free) 0 0) (drop 1 (numbers free)) (get_or (numbers map) i 0 ∷ []) (view map sw logs entries free next)
  renewed_view P sw entries entries' next none e =
      let d = set_map map i new h ∙ ap (upd (λ k. get_or (numbers map) k 0) i) is_new in
      let q = sym (not_released i (sw_view sw) none) in
      let l = ap numbers same_logs in
      let f = ap numbers new_free ∙ numbers_push (drop 1 free) old ∙ ap₂ (λ xs b. xs ++ (b ∷ [])) (numbers_rest free) is_old in
      λ j. record { data_block = d j; sequential = q j; logs = l j; entries = e j; free = f j; next = next }

sw_gone : (sw : Option Sw) (k : Sw) → sw ≡ Some k → (b : ℕ) → uses_sw b sw ≡ same b k.block.0
sw_gone sw k e b = ap (uses_sw b) e

let_go : (sw : Option Sw) (k : Sw) → sw ≡ Some k → None ≡ released k.owner.0 (sw_view sw)
let_go sw k e = sym (ap (λ q. released k.owner.0 (sw_view q)) e ∙ was_released k.owner.0 (record { owner = k.owner.0; block = k.block.0; fill = k.fill }) refl)

-- a data block replaced by the sequential log block
module _ (map : List Block) (logs free logs' free' : List Block) (sw : Option Sw) (k : Sw) (has : sw ≡ Some k) (old : Block) (h : k.owner.0 < length map)
    (is_old : old.0 ≡ get_or (numbers map) k.owner.0 0)
    (same_logs : logs' ≡ logs) (new_free : free' ≡ free ++ (old ∷ [])) where
  pub adopted_roles : (B : ℕ) → OneRole B map sw logs free → OneRole B (set map k.owner.0 k.block) None logs' free'
  adopted_roles B r b =
      omega (
        arith,
        uses_set b map k.owner.0 k.block h,
        uses_push b free old,
        sw_gone sw k has b,
        r b,
        ap (uses b) same_logs,
        ap (uses b) new_free,
        ap (same b) is_old,
      )

  pub adopted_led : (B : ℕ) → OneRole B map sw logs free → (es es' : List code.Entry) (n n' : ℕ)
      → Led B (view map sw logs es free n) (turn finished k.block.0 ∷ turn erased (get_or (numbers map) k.owner.0 0) ∷ []) (view (set map k.owner.0 k.block) None logs' es' free' n')
  adopted_led B r es es' n n' b lt =
      let one : cond {A = ℕ} (ltb b B) 1 0 ≡ 1 = ap (λ q. cond {A = ℕ} q 1 0) (lt-ltb b B lt) in
      let r₁ = r b in
      let a = uses_at b map k.owner.0 h in
      let s = sw_gone sw k has b in
      let g = ap (uses b) new_free ∙ uses_push b free old in
      let o = ap (same b) is_old in
      rw (role_counted map sw logs es free n b, role_counted (set map k.owner.0 k.block) None logs' es' free' n' b, ap (uses b) same_logs)
      (leads_two finished k.block.0 (get_or (numbers map) k.owner.0 0) b (role_by (uses b free) (uses b logs) (uses_sw b sw)) (role_by (uses b free') (uses b logs) 0)
      (λ x y. absurd (omega arith))
      (λ x y. switched (uses b free) (uses b logs) (uses_sw b sw) (uses b free') (omega arith) (omega arith) (omega arith) (omega arith))
      (λ x y. freed (uses b free) (uses b logs) (uses_sw b sw) (uses b free') (omega arith) (omega arith) (omega arith) (omega arith))
      (λ x y. let f₁ : uses b free ≡ uses b free' = omega arith in let s₁ : uses_sw b sw ≡ 0 = omega arith in ap₂ (λ z w. role_by z (uses b logs) w) f₁ s₁))
    where
      switched : (f l s g : ℕ) → f ≡ 0 → l ≡ 0 → s ≡ 1 → g ≡ 0 → after (role_by f l s) finished ≡ Some (role_by g l 0)
      switched f l s g i j k e = rw (i, j, k, e) refl

      freed : (f l s g : ℕ) → f ≡ 0 → l ≡ 0 → s ≡ 0 → g ≡ 1 → after (role_by f l s) erased ≡ Some (role_by g l 0)
      freed f l s g i j k e = rw (i, j, k, e) refl

  pub adopted_view : (P : ℕ) (entries entries' : List code.Entry) (next : ℕ)
      → entries_view entries' ≡ stale_all (λ n. eqb (n / P) k.owner.0) (entries_view entries)
      → view (set map k.owner.0 k.block) None logs' entries' free' next ≡ merged P k.owner.0 k.block.0 (numbers free) (get_or (numbers map) k.owner.0 0 ∷ []) (view map sw logs entries free next)
  adopted_view P entries entries' next e =
      let d = set_map map k.owner.0 k.block h in
      let q = let_go sw k has in
      let l = ap numbers same_logs in
      let f = ap numbers new_free ∙ numbers_push free old ∙ ap (λ b. numbers free ++ (b ∷ [])) is_old in
      λ j. record { data_block = d j; sequential = q j; logs = l j; entries = e j; free = f j; next = next }

-- a data block replaced by the first free block, and the sequential log block freed with it
module _ (map : List Block) (logs free logs' free' : List Block) (sw : Option Sw) (k : Sw) (has : sw ≡ Some k) (new old : Block) (h : k.owner.0 < length map) (some : 0 < length free)
    (is_new : new.0 ≡ get_or (numbers free) 0 0) (is_old : old.0 ≡ get_or (numbers map) k.owner.0 0)
    (same_logs : logs' ≡ logs) (new_free : free' ≡ (drop 1 free ++ (old ∷ [])) ++ (k.block ∷ [])) where
  pub replaced_roles : (B : ℕ) → OneRole B map sw logs free → OneRole B (set map k.owner.0 new) None logs' free'
  replaced_roles B r b =
      omega (
        arith,
        uses_set b map k.owner.0 new h,
        uses_front b free some,
        uses_push b (drop 1 free) old,
        uses_push b (drop 1 free ++ (old ∷ [])) k.block,
        sw_gone sw k has b,
        r b,
        ap (uses b) same_logs,
        ap (uses b) new_free,
        ap (same b) is_new,
        ap (same b) is_old,
      )

  pub replaced_led : (B : ℕ) → OneRole B map sw logs free → (es es' : List code.Entry) (n n' : ℕ)
      → Led B (view map sw logs es free n) (turn taken_as_data (get_or (numbers free) 0 0) ∷ turn erased (get_or (numbers map) k.owner.0 0) ∷ turn erased k.block.0 ∷ []) (view (set map k.owner.0 new) None logs' es' free' n')
  replaced_led B r es es' n n' b lt =
      let one : cond {A = ℕ} (ltb b B) 1 0 ≡ 1 = ap (λ q. cond {A = ℕ} q 1 0) (lt-ltb b B lt) in
      let r₁ = r b in
      let a = uses_at b map k.owner.0 h in
      let s = sw_gone sw k has b in
      let f = uses_front b free some in
      let g = ap (uses b) new_free ∙ uses_push b (drop 1 free ++ (old ∷ [])) k.block in
      let p = uses_push b (drop 1 free) old in
      let o = ap (same b) is_old in
      rw (role_counted map sw logs es free n b, role_counted (set map k.owner.0 new) None logs' es' free' n' b, ap (uses b) same_logs)
      (leads_three taken_as_data (get_or (numbers free) 0 0) (get_or (numbers map) k.owner.0 0) k.block.0 b (role_by (uses b free) (uses b logs) (uses_sw b sw)) (role_by (uses b free') (uses b logs) 0)
      (λ x. (omega arith, omega arith))
      (λ y z. absurd (omega arith))
      (λ x. taken (uses b free) (uses b logs) (uses_sw b sw) (uses b free') (omega arith) (omega arith) (omega arith) (omega arith))
      (λ x y z. freed (uses b free) (uses b logs) (uses_sw b sw) (uses b free') (omega arith) (omega arith) (omega arith) (omega arith))
      (λ x y z. given_up (uses b free) (uses b logs) (uses_sw b sw) (uses b free') (omega arith) (omega arith) (omega arith) (omega arith))
      (λ x y z. let f₁ : uses b free ≡ uses b free' = omega arith in let s₁ : uses_sw b sw ≡ 0 = omega arith in ap₂ (λ u w. role_by u (uses b logs) w) f₁ s₁))
    where
      taken : (f l s g : ℕ) → f ≡ 1 → l ≡ 0 → s ≡ 0 → g ≡ 0 → after (role_by f l s) taken_as_data ≡ Some (role_by g l 0)
      taken f l s g i j k e = rw (i, j, e) refl

      freed : (f l s g : ℕ) → f ≡ 0 → l ≡ 0 → s ≡ 0 → g ≡ 1 → after (role_by f l s) erased ≡ Some (role_by g l 0)
      freed f l s g i j k e = rw (i, j, k, e) refl

      given_up : (f l s g : ℕ) → f ≡ 0 → l ≡ 0 → s ≡ 1 → g ≡ 1 → after (role_by f l s) erased ≡ Some (role_by g l 0)
      given_up f l s g i j k e = rw (i, j, k, e) refl

  pub replaced_view : (P : ℕ) (entries entries' : List code.Entry) (next : ℕ)
      → entries_view entries' ≡ stale_all (λ n. eqb (n / P) k.owner.0) (entries_view entries)
      → view (set map k.owner.0 new) None logs' entries' free' next ≡ merged P k.owner.0 (get_or (numbers free) 0 0) (drop 1 (numbers free)) (get_or (numbers map) k.owner.0 0 ∷ k.block.0 ∷ []) (view map sw logs entries free next)
  replaced_view P entries entries' next e =
      let d = set_map map k.owner.0 new h ∙ ap (upd (λ i. get_or (numbers map) i 0) k.owner.0) is_new in
      let q = let_go sw k has in
      let l = ap numbers same_logs in
      let f =
      ap numbers new_free ∙ numbers_push (drop 1 free ++ (old ∷ [])) k.block
      ∙ ap (λ xs. xs ++ (k.block.0 ∷ [])) (numbers_push (drop 1 free) old ∙ ap₂ (λ xs b. xs ++ (b ∷ [])) (numbers_rest free) is_old)
      ∙ append_assoc (drop 1 (numbers free)) (get_or (numbers map) k.owner.0 0 ∷ []) (k.block.0 ∷ []) in
      λ j. record { data_block = d j; sequential = q j; logs = l j; entries = e j; free = f j; next = next }

pub live_push : (n k : ℕ) (es : List Entry) → live_entries n (es ++ (live k ∷ [])) ≡ live_entries n es + same n k
live_push n k [] = omega arith
live_push n k (live m ∷ es) = let r = live_push n k es in omega arith
live_push n k (stale ∷ es) = live_push n k es

pub live_drop : (n i : ℕ) (es : List Entry) → live_entries n (drop i es) ≤ live_entries n es
live_drop n zero es = omega arith
live_drop n (suc i) [] = omega arith
live_drop n (suc i) (live m ∷ es) = let r = live_drop n i es in omega arith
live_drop n (suc i) (stale ∷ es) = live_drop n i es

live_gone : (k : ℕ) (es : List Entry) → live_entries k (stale_all (λ m. eqb m k) es) ≡ 0
live_gone k [] = refl
live_gone k (stale ∷ es) = live_gone k es
live_gone k (live m ∷ es) =
    let r = live_gone k es in
    elim (cases_eq m k) [
      | inl e ↦ rw (eq-eqb m k e) r
      | inr n ↦ let d : k ≢ m = λ e. n (sym e) in rw (ne_eqb m k n, ne_eqb k m d) (omega arith)
    ]

-- a new live entry in the place of an older one
pub noted_live : (size k : ℕ) (es fs : List Entry) → k < size → OneLive size es → fs ≡ stale_all (λ m. eqb m k) es ++ (live k ∷ []) → OneLive size fs
noted_live size k es fs h one e n =
    let p = live_push n k (stale_all (λ m. eqb m k) es) in
    let q = live_stale (λ m. eqb m k) n es in
    elim (cases_eq n k) [
      | inl i ↦
          let z : live_entries n (stale_all (λ m. eqb m k) es) ≡ 0 = ap (λ j. live_entries j (stale_all (λ m. eqb m k) es)) i ∙ live_gone k es in
          let b : cond {A = ℕ} (ltb n size) 1 0 ≡ 1 = ap (λ j. cond {A = ℕ} (ltb j size) 1 0) i ∙ ap (λ b. cond {A = ℕ} b 1 0) (lt-ltb k size h) in
          let w : same n k ≤ 1 = same_few n k in
          omega (arith, ap (live_entries n) e)
      | inr d ↦
          let w : same n k ≡ 0 = ap (λ b. cond {A = ℕ} b 1 0) (ne_eqb n k d) in
          omega (arith, ap (live_entries n) e, one n)
    ]
  where
    same_few : (a b : ℕ) → same a b ≤ 1
    same_few a b = elim (eqb a b) as (λ t. cond {A = ℕ} t 1 0 ≤ 1) [ true ↦ omega arith | false ↦ omega arith ]

-- the first block of one list moved to the end of another
pub moved : (b : ℕ) (xs ys xs' ys' : List Block) (x : Block) → 0 < length xs → x.0 ≡ get_or (numbers xs) 0 0 → xs' ≡ drop 1 xs → ys' ≡ ys ++ (x ∷ []) → uses b xs' + uses b ys' ≡ uses b xs + uses b ys
moved b xs ys xs' ys' x h e i j = omega (arith, uses_front b xs h, uses_push b ys x, ap (uses b) i, ap (uses b) j, ap (same b) e)

pub numbers_moved : (ys ys' : List Block) (x : Block) (n : ℕ) → x.0 ≡ n → ys' ≡ ys ++ (x ∷ []) → numbers ys' ≡ numbers ys ++ (n ∷ [])
numbers_moved ys ys' x n e j = ap numbers j ∙ numbers_push ys x ∙ ap (λ m. numbers ys ++ (m ∷ [])) e

busy_few : (q : Option Sw) → busy q ≤ 1
busy_few None = omega arith
busy_few (Some k) = omega arith

pub first_some : (xs : List Block) → 0 < length xs → IsSome (first_of xs)
first_some [] h = absurd (omega arith)
first_some (x ∷ xs) h = refl

pub first_number : (xs : List Block) (b : Block) → first_of xs ≡ Some b → b.0 ≡ get_or (numbers xs) 0 0
first_number [] b e = let z : ◌≡◌ {A = ℕ} 0 1 = cc in absurd (omega arith)
first_number (x ∷ xs) b e = let i : b ≡ x = cc in ap (λ (b : Block). b.0) i

-- in tables there is always a free block
pub some_free : (t : Tables) → 0 < length (deque_items t.free.blocks)
some_free t = omega (arith, t.free.blocks.ok.0, t.all_blocks, t.few_logs, t.sizes.blocks_fit, busy_few t.sw)

-- the first free block taken as a log, and the oldest random log given up
module _ (B : ℕ) (map : List Block) (es es' : List code.Entry) (n n' : ℕ) where
  pub opened_led : (logs free free' : List Block) (k : Sw) → 0 < length free → k.block.0 ≡ get_or (numbers free) 0 0 → free' ≡ drop 1 free → OneRole B map None logs free
      → Led B (view map None logs es free n) (turn taken_as_sequential (get_or (numbers free) 0 0) ∷ []) (view map (Some k) logs es' free' n')
  opened_led logs free free' k some is_new new_free r b lt =
      let one : cond {A = ℕ} (ltb b B) 1 0 ≡ 1 = ap (λ q. cond {A = ℕ} q 1 0) (lt-ltb b B lt) in
      let r₁ = r b in
      let f = uses_front b free some in
      let g = ap (uses b) new_free in
      let s = ap (same b) is_new in
      rw (role_counted map None logs es free n b, role_counted map (Some k) logs es' free' n' b)
      (leads_one taken_as_sequential (get_or (numbers free) 0 0) b (role_by (uses b free) (uses b logs) 0) (role_by (uses b free') (uses b logs) (same b k.block.0))
      (λ x. taken (uses b free) (uses b logs) (uses b free') (same b k.block.0) (omega arith) (omega arith) (omega arith) (omega arith))
      (λ x. let f₁ : uses b free ≡ uses b free' = omega arith in let s₁ : 0 ≡ same b k.block.0 = omega arith in ap₂ (λ u w. role_by u (uses b logs) w) f₁ s₁))
    where
      taken : (f l g s : ℕ) → f ≡ 1 → l ≡ 0 → g ≡ 0 → s ≡ 1 → after (role_by f l 0) taken_as_sequential ≡ Some (role_by g l s)
      taken f l g s i j k e = rw (i, j, k, e) refl

  module _ (sw : Option Sw) (logs logs' free free' : List Block) (x : Block) (r : OneRole B map sw logs free) where
    pub logged_led : 0 < length free → x.0 ≡ get_or (numbers free) 0 0 → free' ≡ drop 1 free → logs' ≡ logs ++ (x ∷ [])
        → Led B (view map sw logs es free n) (turn taken_as_random (get_or (numbers free) 0 0) ∷ []) (view map sw logs' es' free' n')
    logged_led some is_new new_free new_logs b lt =
        let one : cond {A = ℕ} (ltb b B) 1 0 ≡ 1 = ap (λ q. cond {A = ℕ} q 1 0) (lt-ltb b B lt) in
        let r₁ = r b in
        let f = uses_front b free some in
        let g = ap (uses b) new_free in
        let l = ap (uses b) new_logs ∙ uses_push b logs x in
        let s = ap (same b) is_new in
        rw (role_counted map sw logs es free n b, role_counted map sw logs' es' free' n' b)
        (leads_one taken_as_random (get_or (numbers free) 0 0) b (role_by (uses b free) (uses b logs) (uses_sw b sw)) (role_by (uses b free') (uses b logs') (uses_sw b sw))
        (λ y. taken (uses b logs) (uses_sw b sw) (uses b free) (uses b free') (uses b logs') (omega arith) (omega arith) (omega arith))
        (λ y. let f₁ : uses b free ≡ uses b free' = omega arith in let l₁ : uses b logs ≡ uses b logs' = omega arith in ap₂ (λ u w. role_by u w (uses_sw b sw)) f₁ l₁))
      where
        taken : (l s f g m : ℕ) → f ≡ 1 → g ≡ 0 → m ≡ 1 → after (role_by f l s) taken_as_random ≡ Some (role_by g m s)
        taken l s f g m i j k = rw (i, j, k) refl

    pub retired_led : 0 < length logs → x.0 ≡ get_or (numbers logs) 0 0 → logs' ≡ drop 1 logs → free' ≡ free ++ (x ∷ [])
        → Led B (view map sw logs es free n) (turn erased (get_or (numbers logs) 0 0) ∷ []) (view map sw logs' es' free' n')
    retired_led some is_old new_logs new_free b lt =
        let one : cond {A = ℕ} (ltb b B) 1 0 ≡ 1 = ap (λ q. cond {A = ℕ} q 1 0) (lt-ltb b B lt) in
        let r₁ = r b in
        let l = uses_front b logs some in
        let g = ap (uses b) new_logs in
        let f = ap (uses b) new_free ∙ uses_push b free x in
        let s = ap (same b) is_old in
        rw (role_counted map sw logs es free n b, role_counted map sw logs' es' free' n' b)
        (leads_one erased (get_or (numbers logs) 0 0) b (role_by (uses b free) (uses b logs) (uses_sw b sw)) (role_by (uses b free') (uses b logs') (uses_sw b sw))
        (λ y. freed (uses b logs') (uses_sw b sw) (uses b free) (uses b logs) (uses b free') (omega arith) (omega arith) (omega arith))
        (λ y. let f₁ : uses b free ≡ uses b free' = omega arith in let l₁ : uses b logs ≡ uses b logs' = omega arith in ap₂ (λ u w. role_by u w (uses_sw b sw)) f₁ l₁))
      where
        freed : (m s f l g : ℕ) → f ≡ 0 → l ≡ 1 → g ≡ 1 → after (role_by f l s) erased ≡ Some (role_by g m s)
        freed m s f l g i j k = rw (i, j, k) refl
