-- The fit check and format, check by check.
use Rattle.std.proofs.Common.{◌≡◌, ℕ, ◌+◌, ◌<◌, ◌≤◌, true, false, ltb, leb, is_err, Some, None, Ok, Err, Result, sym, refl, ap, ◌∙◌, inl, inr, arith}
use mathlib.Core.Path.{fun_ext}
use Rattle.std.proofs.lemmas.Bool.{cases_lt, lt-ltb, le-ltb, le-leb, lt-leb}
use Rattle.flash.specs.Meaning.{Flash}
use Rattle.scheme.specs.Functions.{some_below}
use Rattle.scheme.specs.Runs.{Layer, fit, format, geometry_fits}
use Rattle.scheme.specs.Steps.{first_tables, formatted}
use Rattle.scheme.specs.Tables as scheme
use Rattle.scheme.specs.Work.{each, do_erase}
use Rattle.fast.specs.Leaves.{at}
use Rattle.fast.specs.Meaning.{view_of}
use Rattle.fast.specs.Told.{meant, started, unfit_number, fit_told}
use Rattle.fast.specs.declared.fit.Unfit.{Unfit}
use Rattle.fast.specs.declared.tables.Tables.{Tables}

same_test : (a b : ℕ) → ltb a (b + 1) ≡ leb a b
same_test a b =
    elim (cases_lt b a) [
      | inl h ↦ let i : b + 1 ≤ a = omega arith in le-ltb a (b + 1) i ∙ sym (lt-leb a b h)
      | inr h ↦ let i : a < b + 1 = omega arith in lt-ltb a (b + 1) i ∙ sym (le-leb a b h)
    ]

worn_same : (f : Flash) → some_below f.blocks (λ b. ltb f.life (f.count b + 1)) ≡ some_below f.blocks (λ b. leb f.life (f.count b))
worn_same f = ap (some_below f.blocks) (fun_ext (λ b. same_test f.life (f.count b)))

module _ (f : Flash) (L R : ℕ) where
  pub out_of_range : false ≡ geometry_fits f L R → Some 11 ≡ fit f L R
  unfolding fit
  out_of_range e = rw (fit, sym e) refl

  pub worn_out : true ≡ geometry_fits f L R → true ≡ some_below f.blocks (λ b. ltb f.life (f.count b + 1)) → Some 12 ≡ fit f L R
  unfolding fit
  worn_out e h = let i = sym (h ∙ worn_same f) in rw (fit, sym e, i) refl

  pub fits_well : true ≡ geometry_fits f L R → false ≡ some_below f.blocks (λ b. ltb f.life (f.count b + 1)) → None ≡ fit f L R
  unfolding fit
  fits_well e h = let i = sym (h ∙ worn_same f) in rw (fit, sym e, i) refl

  module _ (first : ℕ) where
    pub formats_nothing : (m : ℕ) → Some m ≡ fit f L R → meant f None ≡ format (started f L R first)
    unfolding format
    formats_nothing m e = rw (format, sym e) refl

    pub formats_well : None ≡ fit f L R → (g : Flash) (t : Tables) (blocks : ℕ) → blocks ≡ f.blocks
        → t.sizes.pages ≡ f.pages → t.sizes.logical ≡ L → t.sizes.random ≡ R → view_of t ≡ first_tables L blocks first
        → ((u : scheme.Tables) → at g u ≡ (each do_erase 0 f.blocks (at f u)).after) → meant g (Some t) ≡ format (started f L R first)
    unfolding format formatted
    formats_well e g t blocks eb p l r s w =
        let st : at g (view_of t) ≡ (formatted L first f).after = w (view_of t) ∙ ap (λ u. (each do_erase 0 f.blocks (at f u)).after) (s ∙ ap (λ n. first_tables L n first) eb) in
        let y : ◌≡◌ {A = Layer} (meant g (Some t)) (record { pages = f.pages; logical = L; random = R; state = (formatted L first f).after }) = λ j. record { pages = p j; logical = l j; random = r j; state = st j } in
        y ∙ rw (format, sym e) refl

-- what the fit check told, by whether it is an error
module _ (f : Flash) (L R : ℕ) where
  pub formats_unfit : (first : ℕ) (r : Result (Unit {0}) Unfit) → true ≡ is_err r → fit_told r ≡ fit f L R → meant f None ≡ format (started f L R first)
  formats_unfit first (Ok u) h e = let z : ◌≡◌ {A = ℕ} 0 1 = cc in absurd (omega arith)
  formats_unfit first (Err x) h e = formats_nothing f L R first (unfit_number x) e

  pub is_fit : (r : Result (Unit {0}) Unfit) → false ≡ is_err r → fit_told r ≡ fit f L R → fit f L R ≡ None
  is_fit (Ok u) h e = sym e
  is_fit (Err x) h e = let z : ◌≡◌ {A = ℕ} 0 1 = cc in absurd (omega arith)
