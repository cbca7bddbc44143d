-- The role of a block by its counts in the lists of the tables, and how one change of the tables leads it.
use Rattle.std.proofs.Common.{◌≡◌, ℕ, zero, suc, ◌+◌, ◌<◌, ◌≤◌, cond, ltb, ◌≢◌, List, [], ◌∷◌, length, get_or, Some, None, Option, sym, refl, ap, ◌∙◌, ap₂, inl, inr, arith}
use Rattle.std.proofs.lemmas.Bool.{cases_eq, eq-eqb, ne_eqb}
use Rattle.flash.specs.declared.numbers.Block.{Block}
use Rattle.scheme.specs.Roles.{Role, free, stores_data, sequential_log, random_log, Event, erased, after, led, role_of, is_block, times, times_sequential}
use Rattle.scheme.specs.Steps.{turn}
use Rattle.scheme.proofs.Changes.{led_own, led_other}
use Rattle.fast.specs.Rules.{same, uses, uses_sw}
use Rattle.fast.specs.Views.{numbers, view, sw_view}
use Rattle.fast.specs.declared.tables.random.Entry as code
use Rattle.fast.specs.declared.tables.sequential.Sw.{Sw}

same_block : (a b : ℕ) → is_block a b ≡ same b a
same_block a b =
    elim (cases_eq a b) [
      | inl e ↦ rw (eq-eqb a b e, eq-eqb b a (sym e)) refl
      | inr n ↦ let m : b ≢ a = λ e. n (sym e) in rw (ne_eqb a b n, ne_eqb b a m) refl
    ]

times_uses : (b : ℕ) (xs : List Block) → times b (numbers xs) ≡ uses b xs
times_uses b [] = refl
times_uses b (x ∷ xs) = ap₂ (λ m n. m + n) (same_block x.0 b) (times_uses b xs)

times_uses_sw : (b : ℕ) (q : Option Sw) → times_sequential b (sw_view q) ≡ uses_sw b q
times_uses_sw b None = refl
times_uses_sw b (Some k) = same_block k.block.0 b

-- the role of a block that stands so often in the free list, in the random log and in the sequential log
abbrev pub role_by : ℕ → ℕ → ℕ → Role
role_by f l s = cond (ltb 0 f) free (cond (ltb 0 l) random_log (cond (ltb 0 s) sequential_log stores_data))

pub role_counted : (map : List Block) (sw : Option Sw) (logs : List Block) (es : List code.Entry) (frees : List Block) (n b : ℕ) → role_of (view map sw logs es frees n) b ≡ role_by (uses b frees) (uses b logs) (uses_sw b sw)
role_counted map sw logs es frees n b = rw (times_uses b frees, times_uses b logs, times_uses_sw b sw) refl

-- a block stands at least once where it is found
pub uses_at : (b : ℕ) (xs : List Block) (i : ℕ) → i < length xs → same b (get_or (numbers xs) i 0) ≤ uses b xs
uses_at b [] i h = absurd (omega arith)
uses_at b (x ∷ xs) zero h = omega arith
uses_at b (x ∷ xs) (suc i) h = let r = uses_at b xs i (omega arith) in omega arith

pub same_is : (b a : ℕ) → a ≡ b → same b a ≡ 1
same_is b a e = rw (eq-eqb b a (sym e)) refl

pub same_not : (b a : ℕ) → a ≢ b → same b a ≡ 0
same_not b a n = let m : b ≢ a = λ e. n (sym e) in rw (ne_eqb b a m) refl

-- one block changes
pub leads_one : (e : Event) (x b : ℕ) (r q : Role) → (same b x ≡ 1 → after r e ≡ Some q) → (same b x ≡ 0 → r ≡ q) → led b (turn e x ∷ []) r ≡ Some q
leads_one e x b r q here there =
    elim (cases_eq x b) [
      | inl i ↦ led_own b (turn e x) [] r q i (here (same_is b x i))
      | inr n ↦ led_other b (turn e x) [] r n ∙ ap Some (there (same_not b x n))
    ]

-- one block changes, and another is erased
pub leads_two : (e : Event) (x y b : ℕ) (r q : Role) → (same b x ≡ 1 → same b y ≡ 1 → ⊥)
    → (same b x ≡ 1 → same b y ≡ 0 → after r e ≡ Some q) → (same b x ≡ 0 → same b y ≡ 1 → after r erased ≡ Some q) → (same b x ≡ 0 → same b y ≡ 0 → r ≡ q)
    → led b (turn e x ∷ turn erased y ∷ []) r ≡ Some q
leads_two e x y b r q apart first second other =
    elim (cases_eq x b) [
      | inl i ↦ elim (cases_eq y b) [
        | inl j ↦ absurd (apart (same_is b x i) (same_is b y j))
        | inr n ↦ led_own b (turn e x) (turn erased y ∷ []) r q i (first (same_is b x i) (same_not b y n)) ∙ led_other b (turn erased y) [] q n
      ]
      | inr m ↦ led_other b (turn e x) (turn erased y ∷ []) r m
          ∙ leads_one erased y b r q (second (same_not b x m)) (other (same_not b x m))
    ]

-- one block changes, and two others are erased
pub leads_three : (e : Event) (x y z b : ℕ) (r q : Role) → (same b x ≡ 1 → (same b y ≡ 0) × (same b z ≡ 0)) → (same b y ≡ 1 → same b z ≡ 1 → ⊥)
    → (same b x ≡ 1 → after r e ≡ Some q) → (same b x ≡ 0 → same b y ≡ 1 → same b z ≡ 0 → after r erased ≡ Some q) → (same b x ≡ 0 → same b y ≡ 0 → same b z ≡ 1 → after r erased ≡ Some q)
    → (same b x ≡ 0 → same b y ≡ 0 → same b z ≡ 0 → r ≡ q)
    → led b (turn e x ∷ turn erased y ∷ turn erased z ∷ []) r ≡ Some q
leads_three e x y z b r q alone apart first second third other =
    elim (cases_eq x b) [
      | inl i ↦
          let a = alone (same_is b x i) in
          let not_y : y ≢ b = λ j. omega (arith, same_is b y j, a.0) in
          let not_z : z ≢ b = λ j. omega (arith, same_is b z j, a.1) in
          led_own b (turn e x) (turn erased y ∷ turn erased z ∷ []) r q i (first (same_is b x i)) ∙ led_other b (turn erased y) (turn erased z ∷ []) q not_y ∙ led_other b (turn erased z) [] q not_z
      | inr m ↦ led_other b (turn e x) (turn erased y ∷ turn erased z ∷ []) r m
          ∙ leads_two erased y z b r q apart (second (same_not b x m)) (third (same_not b x m)) (other (same_not b x m))
    ]
