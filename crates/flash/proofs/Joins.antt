-- A change of one side of a join is that change of the join.
use Rattle.std.proofs.Common.{◌≡◌, ℕ, ◌-◌, ◌<◌, ◌≤◌, List, arith}
use Rattle.std.proofs.lemmas.Bool.Decides.{nat_tests}
use Rattle.flash.specs.Meaning.{Page, holds, Flash}
use Rattle.flash.specs.Calls.{programmed, with_page, erased, with_erased}
use Rattle.flash.specs.Joined.{joined, joined_blocks, joined_pages}
use Rattle.flash.proofs.Same.{same_flash}

module _ (f g : Flash) (b : ℕ) (shown : b < joined_blocks f g) where
  page_first : (o : ℕ) (p : Page) → b < f.blocks → o < joined_pages f g → joined (with_page f b o p) g ≡ with_page (joined f g) b o p
  page_first o p h k =
      same_flash _ _ (grind (arith, nat_tests)) (grind (arith, nat_tests)) (grind (arith, nat_tests)) (λ c. grind (arith, nat_tests)) (λ c i. grind (arith, nat_tests))

  page_second : (o : ℕ) (p : Page) → f.blocks ≤ b → o < joined_pages f g → joined f (with_page g (b - f.blocks) o p) ≡ with_page (joined f g) b o p
  page_second o p h k =
      same_flash _ _ (grind (arith, nat_tests)) (grind (arith, nat_tests)) (grind (arith, nat_tests)) (λ c. grind (arith, nat_tests)) (λ c i. grind (arith, nat_tests))

  block_first : b < f.blocks → joined (with_erased f b) g ≡ with_erased (joined f g) b
  block_first h =
      same_flash _ _ (grind (arith, nat_tests)) (grind (arith, nat_tests)) (grind (arith, nat_tests)) (λ c. grind (arith, nat_tests)) (λ c i. grind (arith, nat_tests))

  block_second : f.blocks ≤ b → joined f (with_erased g (b - f.blocks)) ≡ with_erased (joined f g) b
  block_second h =
      same_flash _ _ (grind (arith, nat_tests)) (grind (arith, nat_tests)) (grind (arith, nat_tests)) (λ c. grind (arith, nat_tests)) (λ c i. grind (arith, nat_tests))

  pub programmed_first : (o s t : ℕ) (bs : List ℕ) → b < f.blocks → o < joined_pages f g →
      joined (programmed f b o s t bs) g ≡ programmed (joined f g) b o s t bs
  programmed_first o s t bs h k = let e = page_first o (holds s t bs) h k in grind (arith, nat_tests)

  pub programmed_second : (o s t : ℕ) (bs : List ℕ) → f.blocks ≤ b → o < joined_pages f g →
      joined f (programmed g (b - f.blocks) o s t bs) ≡ programmed (joined f g) b o s t bs
  programmed_second o s t bs h k = let e = page_second o (holds s t bs) h k in grind (arith, nat_tests)

  pub erased_first : b < f.blocks → f.count b < (joined f g).life → joined (erased f b) g ≡ erased (joined f g) b
  erased_first h k = let e = block_first h in grind (arith, nat_tests)

  pub erased_second : f.blocks ≤ b → g.count (b - f.blocks) < (joined f g).life → joined f (erased g (b - f.blocks)) ≡ erased (joined f g) b
  erased_second h k = let e = block_second h in grind (arith, nat_tests)
