-- A change of a device under a window is that change of the window.
use Rattle.std.proofs.Common.{◌≡◌, ℕ, ◌+◌, ◌<◌, List, arith}
use Rattle.std.proofs.lemmas.Bool.Decides.{nat_tests}
use Rattle.flash.specs.Meaning.{Page, holds, Flash}
use Rattle.flash.specs.Calls.{programmed, with_page}
use Rattle.flash.specs.Windowed.{windowed, windowed_blocks}
use Rattle.flash.proofs.Same.{same_flash}

module _ (f : Flash) (first n b : ℕ) (h : b < windowed_blocks f first n) where
  page_within : (o : ℕ) (p : Page) → windowed (with_page f (first + b) o p) first n ≡ with_page (windowed f first n) b o p
  page_within o p =
      same_flash _ _ (grind (arith, nat_tests)) (grind (arith, nat_tests)) (grind (arith, nat_tests)) (λ c. grind (arith, nat_tests)) (λ c i. grind (arith, nat_tests))

  pub programmed_within : (o s t : ℕ) (bs : List ℕ) → windowed (programmed f (first + b) o s t bs) first n ≡ programmed (windowed f first n) b o s t bs
  programmed_within o s t bs = let e = page_within o (holds s t bs) in grind (arith, nat_tests)
