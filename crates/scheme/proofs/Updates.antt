-- A function with another value at one argument, and lists without repeats.
use Rattle.std.proofs.Common.{◌≡◌, ℕ, eqb, ◌≢◌, List, [], ◌∷◌, ◌++◌, sym, refl, ap, ◌∙◌, inl, inr}
use mathlib.Core.Path.{fun_ext}
use Rattle.std.specs.List.{AllByRecursion}
use Rattle.std.proofs.ByRecursion.{All-push}
use Rattle.std.proofs.lemmas.Bool.{eq-eqb, ne_eqb, cond-true, cond-false, cases_eq}
use Rattle.scheme.specs.Functions.{upd}

pub upd_same : {A : Type 0} (f : ℕ → A) (a : ℕ) (x : A) → upd f a x a ≡ x
unfolding upd
upd_same f a x = cond-true (eqb a a) x (f a) (eq-eqb a a refl)

pub upd_other : {A : Type 0} (f : ℕ → A) (a : ℕ) (x : A) (b : ℕ) → b ≢ a → upd f a x b ≡ f b
unfolding upd
upd_other f a x b ne = cond-false (eqb b a) x (f b) (ne_eqb b a ne)

-- a fact of the value of an update at b, by the two cases
pub upd_both : {A : Type 0} (f : ℕ → A) (a : ℕ) (x : A) (b : ℕ) (Q : A → Type 0) → (b ≡ a → Q x) → (b ≢ a → Q (f b)) → Q (upd f a x b)
upd_both f a x b Q here there =
    elim (cases_eq b a) [
      | inl e ↦ rw (e, upd_same f a x) (here e)
      | inr n ↦ rw upd_other (there n)
    ]

pub upd_self : {A : Type 0} (f : ℕ → A) (a : ℕ) (x : A) → f a ≡ x → upd f a x ≡ f
upd_self f a x e = fun_ext (λ b. upd_both f a x b (λ y. y ≡ f b) (λ i. sym (ap f i ∙ e)) (λ _. refl))

pub upd_twice : {A : Type 0} (f : ℕ → A) (a : ℕ) (x y : A) → upd (upd f a x) a y ≡ upd f a y
upd_twice f a x y =
    fun_ext (λ b. upd_both (upd f a x) a y b (λ z. z ≡ upd f a y b)
    (λ i. sym (ap (upd f a y) i ∙ upd_same f a y))
    (λ n. upd_other f a x b n ∙ sym (upd_other f a y b n)))

-- no number stands in the list twice
abbrev pub Apart : List ℕ → Type 0
Apart [] = Unit {0}
Apart (x ∷ xs) = AllByRecursion (λ y. y ≢ x) xs × Apart xs

pub apart_push : (xs : List ℕ) (y : ℕ) → Apart xs → AllByRecursion (λ x. x ≢ y) xs → Apart (xs ++ y ∷ [])
apart_push [] y a n = (tt, tt)
apart_push (x ∷ xs) y a n = (All-push (λ z. z ≢ x) xs y a.0 (λ e. n.0 (sym e)), apart_push xs y a.1 n.1)
