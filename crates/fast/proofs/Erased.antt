-- The loop that erases every block.
use Rattle.std.proofs.Common.{◌≡◌, ℕ, ◌+◌, sym, refl, ap, ◌∙◌, zero-add, add-one}
use Rattle.flash.specs.Calls.{erased}
use Rattle.flash.specs.Meaning.{Flash}
use Rattle.scheme.specs.Tables.{Tables}
use Rattle.scheme.specs.Work.{State, each, do_erase}
use Rattle.fast.specs.Leaves.{at}

pub erased_none : (s : State) → s ≡ (each do_erase 0 0 s).after
unfolding each
erased_none s = refl

pub erased_more : (b : ℕ) (s : State) (d f : Flash) (t : Tables) → at d t ≡ (each do_erase 0 b s).after → f ≡ erased d b → at f t ≡ (each do_erase 0 (b + 1) s).after
unfolding each
erased_more b s d f t e h =
    ap (λ g. at g t) h ∙ ap (λ (x : State). (do_erase b x).after) e ∙ ap (λ n. (do_erase n (each do_erase 0 b s).after).after) (sym (zero-add b)) ∙ ap (λ n. (each do_erase 0 n s).after) (sym (add-one b))
