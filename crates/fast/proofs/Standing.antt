-- The role of a block, by the lists that contain it.
use Rattle.std.proofs.Common.{◌≡◌, ℕ, ◌+◌, Bool, true, false, eqb, ltb, List, [], ◌∷◌, Some, None, Option, sym, refl, zero-add, ◌∙◌, inl, inr, arith}
use Rattle.std.specs.List.{list_any}
use Rattle.std.proofs.lemmas.Bool.{cases_Bool, lt-ltb}
use Rattle.flash.specs.declared.numbers.Block.{Block}
use Rattle.scheme.specs.Roles.{free, stores_data, sequential_log, random_log, role_of, times}
use Rattle.fast.specs.Views.{numbers, view}
use Rattle.fast.specs.declared.tables.random.Entry.{Entry}
use Rattle.fast.specs.declared.tables.sequential.Sw.{Sw}

-- whether a list contains a block
abbrev pub contains : ℕ → List Block → Bool
contains b xs = list_any (λ y. eqb y.0 b) xs

stands : (b : ℕ) (xs : List Block) → contains b xs ≡ ltb 0 (times b (numbers xs))
stands b [] = refl
stands b (x ∷ xs) =
    elim (cases_Bool (eqb x.0 b)) [
      | inl h ↦ rw h (sym (lt-ltb 0 (1 + times b (numbers xs)) (omega arith)))
      | inr h ↦ rw (h, zero-add) (stands b xs)
    ]

module _ (map : List Block) (logs : List Block) (es : List Entry) (frees : List Block) (n b : ℕ) where
  pub stands_free : (sw : Option Sw) → true ≡ contains b frees → free ≡ role_of (view map sw logs es frees n) b
  stands_free sw f = rw (sym (f ∙ stands b frees)) refl

  module _ (f : false ≡ contains b frees) where
    pub stands_log : (sw : Option Sw) → true ≡ contains b logs → random_log ≡ role_of (view map sw logs es frees n) b
    stands_log sw l = rw (sym (f ∙ stands b frees), sym (l ∙ stands b logs)) refl

    module _ (l : false ≡ contains b logs) where
      pub stands_sequential : (sw : Option Sw) (k : Sw) → sw ≡ Some k → true ≡ eqb k.block.0 b → sequential_log ≡ role_of (view map sw logs es frees n) b
      stands_sequential sw k i e = rw (sym (f ∙ stands b frees), sym (l ∙ stands b logs), i, sym e) refl

      pub stands_other : (sw : Option Sw) (k : Sw) → sw ≡ Some k → false ≡ eqb k.block.0 b → stores_data ≡ role_of (view map sw logs es frees n) b
      stands_other sw k i e = rw (sym (f ∙ stands b frees), sym (l ∙ stands b logs), i, sym e) refl

      pub stands_nowhere : (sw : Option Sw) → sw ≡ None → stores_data ≡ role_of (view map sw logs es frees n) b
      stands_nowhere sw i = rw (sym (f ∙ stands b frees), sym (l ∙ stands b logs), i) refl
