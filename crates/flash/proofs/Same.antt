-- Devices that agree in every number, count and page are the same device.
use Rattle.std.proofs.Common.{◌≡◌, ℕ, ◌<◌, List, length, arith}
use Rattle.std.proofs.lemmas.Bool.Decides.{nat_tests}
use Rattle.flash.specs.Calls.{read_answer, read_buffer, good, marked}
use Rattle.flash.specs.Meaning.{holds, Flash}

pub same_flash : (f g : Flash) → f.blocks ≡ g.blocks → f.pages ≡ g.pages → f.life ≡ g.life →
    ((c : ℕ) → f.count c ≡ g.count c) → ((c i : ℕ) → f.page c i ≡ g.page c i) → f ≡ g
same_flash f g b p l n q = λ k. record { blocks = b k; pages = p k; life = l k; count = λ c. n c k; page = λ c i. q c i k }

-- What a read of a page in use answers and fills.
module _ (f : Flash) (b o s t : ℕ) (ys : List ℕ) (hb : b < f.blocks) (ho : o < f.pages) (e : f.page b o ≡ holds s t ys) where
  pub read_good : (n : ℕ) → n ≡ 512 → read_answer f b o n ≡ good (marked s t)
  read_good n h = grind (arith, nat_tests)

  pub read_fills : (was : List ℕ) → length was ≡ 512 → read_buffer f b o was ≡ ys
  read_fills was h = grind (arith, nat_tests)
