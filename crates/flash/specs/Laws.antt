-- What follows from the meaning of the calls, in the words of whoever uses a device: what is read after a program or an erase, and what
-- stays.
use Rattle.std.specs.Prelude.{◌≡◌, ℕ, ◌+◌, ◌≤◌, cond, List, ◌==◌, ◌≢◌, nat_lt}
use Rattle.flash.specs.Calls.{Answer, good, refused, accepts, Marking}
use Rattle.flash.specs.Joined.{joined}
use Rattle.flash.specs.Meaning.{blank, Flash, Proper}
use Rattle.flash.specs.Windowed.{windowed}

-- The answer of a call that may be refused, and then of a read of page o into n bytes that finds the mark m.
abbrev pub then_read : Flash → Answer (Unit {0}) → ℕ → ℕ → Marking → Answer Marking
then_read f (good u) o n m = cond (nat_lt o f.pages) (cond (n == 512) (good m) (refused 3)) (refused 2)
then_read f (refused k) o n m = refused k

-- The buffer after such a read, which held `was`, where the page has the bytes bs.
abbrev pub then_filled : Answer Marking → List ℕ → List ℕ → List ℕ
then_filled a bs was = cond (accepts a) bs was

-- Devices f and g differ in page o of block b at most.
pub record SameButPage (f g : Flash) (b o : ℕ) : Type 0 where
  pub counts : (c : ℕ) → g.count c ≡ f.count c
  pub pages : (c i : ℕ) → ((c ≡ b) × (i ≡ o) → ⊥) → g.page c i ≡ f.page c i

-- Devices f and g differ in block b at most, which is blank in g and was erased once more.
pub record OnceErased (f g : Flash) (b : ℕ) : Type 0 where
  pub rose : g.count b ≡ f.count b + 1
  pub cleared : (i : ℕ) → g.page b i ≡ blank
  pub counts : (c : ℕ) → (c ≢ b) → g.count c ≡ f.count c
  pub pages : (c i : ℕ) → (c ≢ b) → g.page c i ≡ f.page c i

-- Two sides that are the windows of one device below block k and from there on make that device again.
abbrev pub Rejoins : Flash → Flash → Type 0
Rejoins f g =
    (whole : Flash) (k n : ℕ) → Proper whole → whole.blocks ≤ 65536 → whole.blocks ≤ k + n → f ≡ windowed whole 0 k → g ≡ windowed whole k n →
    joined f g ≡ whole
