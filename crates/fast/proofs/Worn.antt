-- A search for a worn block among all blocks.
use Rattle.std.proofs.Common.{◌≡◌, ℕ, zero, suc, ◌≤◌, Bool, false, ◌&&◌, ◌||◌, ltb, [], ◌∷◌, ◌++◌, refl, ap, ◌∙◌, ap₂, sym, zero-add, add-one, arith}
use Rattle.std.specs.List.{list_any, range_with_len}
use Rattle.std.proofs.Math.Bool.{or-false}
use Rattle.std.proofs.lemmas.Bool.{lt-ltb}
use Rattle.std.proofs.lemmas.List.{map-id}
use Rattle.std.proofs.lemmas.List.Folds.{list_any-append}
use Rattle.std.proofs.lemmas.List.FromFn.{map-range_with_len_more}
use Rattle.scheme.specs.Functions.{some_below}

one_more : (n : ℕ) → range_with_len 0 (suc n) ≡ range_with_len 0 n ++ (n ∷ [])
one_more n =
    ap (range_with_len 0) (sym (add-one n)) ∙ sym (map-id _) ∙ map-range_with_len_more (λ x. x) 0 n n (zero-add n) ∙ ap (λ xs. xs ++ (n ∷ [])) (map-id _)

-- a test that also asks for a number below B, tried on no others
pub any_below : (B : ℕ) (test : ℕ → Bool) (n : ℕ) → n ≤ B → list_any (λ b. ltb b B && test b) (range_with_len 0 n) ≡ some_below n test
any_below B test zero h = refl
any_below B test (suc n) h =
    let here : (ltb n B && test n || false) ≡ test n = rw (lt-ltb n B (omega arith)) (or-false (test n)) in
    ap (list_any (λ b. ltb b B && test b)) (one_more n) ∙ list_any-append (λ b. ltb b B && test b) (range_with_len 0 n) (n ∷ []) ∙ ap₂ (λ x y. x || y) (any_below B test n (omega arith)) here
