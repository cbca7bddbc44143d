-- The code's entries and the steps'.
use Rattle.std.proofs.Common.{◌≡◌, ℕ, suc, ◌+◌, ◌-◌, ◌*◌, ◌/◌, ◌%◌, ◌<◌, ◌≤◌, Bool, false, cond, eqb, List, [], ◌∷◌, ◌++◌, map, length, take, drop, Some, None, Option, sym, refl, ap, ◌∙◌, subst, ap₂, inl, inr, mul-le-mul_right, mod-lt, div-add-mod', add-one, position, arith}
use lib.Seq.{take-append-le}
use mathlib.Core.Path.{fun_ext}
use Rattle.std.specs.List.{position_from}
use Rattle.std.specs.Option.{option_map}
use Rattle.std.proofs.lemmas.Iterator.Adapters.{position_from-zero}
use Rattle.std.proofs.lemmas.List.{take_all, drop_all, append-nil, map-append, drop-map, length-map}
use Rattle.std.proofs.lemmas.Bool.{cases_Bool, cases_eq, cases_lt, eq-eqb, ne_eqb, lt-ltb, le-ltb, lt-leb, le-leb}
use Rattle.scheme.specs.Place.{entry_of}
use Rattle.scheme.specs.Tables.{stale_if, stale_all}
use Rattle.fast.specs.Views.{entry_view, entries_view, expired_entry, in_run}
use Rattle.fast.specs.declared.tables.random.Entry.TheVariants.{Live, Stale}
use Rattle.fast.specs.declared.tables.random.Entry.{Entry}

views_map : (f : Entry → Entry) (q : ℕ → Bool) → ((e : Entry) → entry_view (f e) ≡ stale_if q (entry_view e)) → (es : List Entry) → entries_view (map f es) ≡ stale_all q (entries_view es)
views_map f q h [] = refl
views_map f q h (e ∷ es) = ap₂ (λ x xs. x ∷ xs) (h e) (views_map f q h es)

view_expired : (m k : ℕ) (e : Entry) → entry_view (expired_entry m k e) ≡ stale_if (in_run m k) (entry_view e)
view_expired m k (Live n) = elim (cases_Bool (in_run m k n.0)) [ inl h ↦ rw h refl | inr h ↦ rw h refl ]
view_expired m k Stale = refl

pub views_expired : (m k : ℕ) (es : List Entry) → entries_view (map (expired_entry m k) es) ≡ stale_all (in_run m k) (entries_view es)
views_expired m k es = views_map (expired_entry m k) (in_run m k) (view_expired m k) es

-- the run of the sectors of a logical block
pub run_block : (c P : ℕ) → 0 < P → in_run (c * P) P ≡ (λ n. eqb (n / P) c)
run_block c P pos =
    fun_ext (λ n.
    let r : n / P * P + n % P ≡ n = div-add-mod' n P in
    let l : n % P < P = mod-lt n pos in
    elim (cases_eq (n / P) c) [
      | inl e ↦
          let q : n / P * P ≡ c * P = ap (λ k. k * P) e in
          let h : c * P ≤ n = omega arith in
          let k : n - c * P < P = omega arith in
          rw (le-leb (c * P) n h, lt-ltb (n - c * P) P k, eq-eqb (n / P) c e) refl
      | inr d ↦ elim (cases_lt (n / P) c) [
        | inl i ↦
            let u : suc (n / P) * P ≤ c * P = mul-le-mul_right P i in
            let h : n < c * P = omega arith in
            rw (lt-leb (c * P) n h, ne_eqb (n / P) c d) refl
        | inr i ↦
            let j : suc c ≤ n / P = omega arith in
            let u : suc c * P ≤ n / P * P = mul-le-mul_right P j in
            let h : c * P ≤ n = omega arith in
            let k : P ≤ n - c * P = omega arith in
            rw (le-leb (c * P) n h, le-ltb (n - c * P) P k, ne_eqb (n / P) c d) refl
      ]
    ])

pub mapped_all : (f : Entry → Entry) (xs ys : List Entry) (n : ℕ) → length xs ≤ n → ys ≡ map f (take n xs) ++ drop n xs → ys ≡ map f xs
mapped_all f xs ys n h e = e ∙ rw (take_all n xs h, drop_all n xs h) (append-nil (map f xs))

-- whether an entry is the live one of sector n
abbrev pub is_live : ℕ → Entry → Bool
is_live n (Live m) = eqb m.0 n
is_live n Stale = false

found_from : (n i : ℕ) (es : List Entry) → position_from (is_live n) i es ≡ entry_of n i (entries_view es)
found_from n i [] = refl
found_from n i (Live m ∷ es) = ap (λ o. cond (eqb m.0 n) (Some i) o) (rw add-one (found_from n (suc i) es))
found_from n i (Stale ∷ es) = rw add-one (found_from n (suc i) es)

pub found_entry : (n : ℕ) (es : List Entry) → position (is_live n) es ≡ entry_of n 0 (entries_view es)
found_entry n es = position_from-zero (is_live n) es ∙ found_from n 0 es

-- a slice of all of a list, written back
pub taken_back : {A : Type 0} (xs ys : List A) (n : ℕ) → length xs ≡ n → take n (xs ++ ys) ≡ xs
taken_back xs ys n h = let e : length xs ≤ length xs = omega arith in subst (λ m. take m (xs ++ ys) ≡ xs) h (rw (take-append-le, take_all) refl)

pub views_push : (es : List Entry) (e : Entry) → entries_view (es ++ (e ∷ [])) ≡ entries_view es ++ (entry_view e ∷ [])
views_push es e = map-append entry_view es (e ∷ [])

pub views_drop : (n : ℕ) (es : List Entry) → entries_view (drop n es) ≡ drop n (entries_view es)
views_drop n es = sym (drop-map entry_view n es)

pub length_views : (es : List Entry) → length (entries_view es) ≡ length es
length_views es = length-map es entry_view

-- the first number, else the second as so many more
abbrev pub first_of_two : Option ℕ → ℕ → Option ℕ → Option ℕ
first_of_two (Some k) m o = Some k
first_of_two None m o = option_map (λ k. m + k) o

counted_on : (n m i : ℕ) (es : List Entry) → entry_of n (m + i) (entries_view es) ≡ option_map (λ k. m + k) (entry_of n i (entries_view es))
counted_on n m i [] = refl
counted_on n m i (Live k ∷ es) =
    let e : suc (m + i) ≡ m + suc i = omega arith in
    elim (cases_Bool (eqb k.0 n)) [ inl h ↦ rw h refl | inr h ↦ rw (h, e) (counted_on n m (suc i) es) ]
counted_on n m i (Stale ∷ es) = let e : suc (m + i) ≡ m + suc i = omega arith in rw e (counted_on n m (suc i) es)

found_on : (n i : ℕ) (xs ys : List Entry) → entry_of n i (entries_view (xs ++ ys)) ≡ first_of_two (entry_of n i (entries_view xs)) (i + length xs) (entry_of n 0 (entries_view ys))
found_on n i [] ys = let e : i + 0 ≡ i = omega arith in rw e (subst (λ k. entry_of n k (entries_view ys) ≡ option_map (λ k. i + k) (entry_of n 0 (entries_view ys))) e (counted_on n i 0 ys))
found_on n i (Live k ∷ xs) ys =
    let e : suc i + length xs ≡ i + suc (length xs) = omega arith in
    elim (cases_Bool (eqb k.0 n)) [
      | inl h ↦ rw h refl
      | inr h ↦ rw h (subst (λ j. entry_of n (suc i) (entries_view (xs ++ ys)) ≡ first_of_two (entry_of n (suc i) (entries_view xs)) j (entry_of n 0 (entries_view ys))) e (found_on n (suc i) xs ys))
    ]
found_on n i (Stale ∷ xs) ys =
    let e : suc i + length xs ≡ i + suc (length xs) = omega arith in
    subst (λ j. entry_of n (suc i) (entries_view (xs ++ ys)) ≡ first_of_two (entry_of n (suc i) (entries_view xs)) j (entry_of n 0 (entries_view ys))) e (found_on n (suc i) xs ys)

-- a live entry in the first or the second of two parts
found_in_two : (n : ℕ) (xs ys : List Entry) → entry_of n 0 (entries_view (xs ++ ys)) ≡ first_of_two (entry_of n 0 (entries_view xs)) (length xs) (entry_of n 0 (entries_view ys))
found_in_two n xs ys =
    let e : 0 + length xs ≡ length xs = omega arith in
    subst (λ m. entry_of n 0 (entries_view (xs ++ ys)) ≡ first_of_two (entry_of n 0 (entries_view xs)) m (entry_of n 0 (entries_view ys))) e (found_on n 0 xs ys)

pub found_first : (n k : ℕ) (xs ys es : List Entry) → Some k ≡ entry_of n 0 (entries_view xs) → xs ++ ys ≡ es → Some k ≡ entry_of n 0 (entries_view es)
found_first n k xs ys es h e =
    subst (λ es. Some k ≡ entry_of n 0 (entries_view es)) e (sym (found_in_two n xs ys ∙ ap (λ o. first_of_two o (length xs) (entry_of n 0 (entries_view ys))) (sym h)))

pub found_second : (n : ℕ) (o : Option ℕ) (xs ys es : List Entry) → None ≡ entry_of n 0 (entries_view xs) → o ≡ entry_of n 0 (entries_view ys) → xs ++ ys ≡ es → option_map (λ k. length xs + k) o ≡ entry_of n 0 (entries_view es)
found_second n o xs ys es h l e =
    subst (λ es. option_map (λ k. length xs + k) o ≡ entry_of n 0 (entries_view es)) e (sym (found_in_two n xs ys ∙ ap (λ p. first_of_two p (length xs) (entry_of n 0 (entries_view ys))) (sym h) ∙ ap (λ p. option_map (λ k. length xs + k) p) (sym l)))
