-- Two windows that split a device make it again.
use Rattle.std.proofs.Common.{◌≡◌, ℕ, ◌+◌, ◌-◌, ◌<◌, ◌≤◌, ⊎_elim, arith}
use Rattle.std.proofs.lemmas.Bool.{cases_lt}
use Rattle.std.proofs.lemmas.Bool.Decides.{nat_tests}
use Rattle.flash.specs.Joined.{joined}
use Rattle.flash.specs.Laws.{Rejoins}
use Rattle.flash.specs.Meaning.{Flash, Proper}
use Rattle.flash.specs.Windowed.{windowed, windowed_blocks}
use Rattle.flash.proofs.Same.{same_flash}

module _ (f : Flash) (k n : ℕ) (p : Proper f) (h : f.blocks ≤ 65536) (far : f.blocks ≤ k + n) where
  split_count : (c : ℕ) → (joined (windowed f 0 k) (windowed f k n)).count c ≡ f.count c
  split_count c =
      let z : 0 + c ≡ c = omega arith in
      ⊎_elim
      (λ (a : c < f.blocks). ⊎_elim
      (λ (b : c < k). rw z (grind (arith, nat_tests)))
      (λ (b : k ≤ c). let y : k + (c - windowed_blocks f 0 k) ≡ c = omega arith in rw y (grind (arith, nat_tests)))
      (cases_lt c k))
      (λ (a : f.blocks ≤ c). let q = p.no_count c a in grind (arith, nat_tests))
      (cases_lt c f.blocks)

  split_page : (c i : ℕ) → (joined (windowed f 0 k) (windowed f k n)).page c i ≡ f.page c i
  split_page c i =
      let z : 0 + c ≡ c = omega arith in
      ⊎_elim
      (λ (a : c < f.blocks). ⊎_elim
      (λ (d : i < f.pages). ⊎_elim
      (λ (b : c < k). rw z (grind (arith, nat_tests)))
      (λ (b : k ≤ c). let y : k + (c - windowed_blocks f 0 k) ≡ c = omega arith in rw y (grind (arith, nat_tests)))
      (cases_lt c k))
      (λ (d : f.pages ≤ i). let q = p.no_page c i d in grind (arith, nat_tests))
      (cases_lt i f.pages))
      (λ (a : f.blocks ≤ c). let q = p.no_block c i a in grind (arith, nat_tests))
      (cases_lt c f.blocks)

  split_whole : joined (windowed f 0 k) (windowed f k n) ≡ f
  split_whole = same_flash _ _ (grind (arith, nat_tests)) (grind (arith, nat_tests)) (grind (arith, nat_tests)) split_count split_page

pub rejoins : (f g : Flash) → Rejoins f g
rejoins f g whole k n p h far e₁ e₂ = rw (e₁, e₂) (split_whole whole k n p h far)
