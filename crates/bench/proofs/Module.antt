-- The module of two blank chips is the device of the worked run.
use Rattle.std.proofs.Common.{◌≡◌, ap, ◌∙◌, arith}
use Rattle.std.proofs.lemmas.Bool.Decides.{nat_tests}
use Rattle.flash.proofs.Same.{same_flash}
use Rattle.flash.specs.BlankImage.{blank_flash}
use Rattle.flash.specs.Joined.{joined}
use Rattle.flash.specs.Meaning.{Flash}
use Rattle.flash.specs.Windowed.{windowed}
use Rattle.scheme.specs.Bench.{bench}

blank_module : joined (blank_flash 4 4 100) (windowed (blank_flash 5 4 100) 1 4) ≡ bench.device
blank_module =
    same_flash _ _ (grind (arith, nat_tests)) (grind (arith, nat_tests)) (grind (arith, nat_tests)) (λ c. grind (arith, nat_tests)) (λ c i. grind (arith, nat_tests))

pub module_of : (f g : Flash) → f ≡ blank_flash 4 4 100 → g ≡ blank_flash 5 4 100 → joined f (windowed g 1 4) ≡ bench.device
module_of f g d e = ap (λ x. joined x (windowed g 1 4)) d ∙ (ap (λ x. joined (blank_flash 4 4 100) (windowed x 1 4)) e ∙ blank_module)
