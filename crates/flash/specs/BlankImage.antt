-- The image of a blank chip, and which bytes can take it.
use Rattle.std.specs.Prelude.{◌≡◌, ℕ, ◌+◌, ◌*◌, ◌≤◌, min, cond, List, [], ◌∷◌, length, replicate, Ok, Err, Result, ◌==◌}
use Rattle.flash.specs.Meaning.{blank, Flash}
use Rattle.flash.specs.Patched.{all_patched}
use Rattle.image.specs.Format.{word, word_bytes, image_length, Words, Checked, accepted, faulty, checked_in, checked}
use Rattle.image.specs.Told.{fault_number, fault_section, fault_byte}
use Rattle.image.specs.declared.fault.ImageFault.{ImageFault}
use Rattle.image.specs.declared.shape.Geometry.{Geometry}

-- The counts and numbers of the sections, and the erase counts, which are 0.
abbrev pub blank_patches : ℕ → ℕ → ℕ → List (ℕ × List ℕ)
blank_patches b p l =
    (0, word_bytes 3)
    ∷ (4, word_bytes b)
    ∷ (8, word_bytes p)
    ∷ (12, word_bytes l)
    ∷ (16, word_bytes b)
    ∷ (20, replicate (4 * b) 0)
    ∷ (20 + 4 * b, word_bytes (b * p))
    ∷ (24 + 4 * b + 4 * (b * p), word_bytes (b * p))
    ∷ (28 + 4 * b + 8 * (b * p), word_bytes (b * p))
    ∷ []

-- All other bits are set, as an erase leaves them.
unfoldable pub blank_image : ℕ → ℕ → ℕ → List ℕ
blank_image b p l = all_patched (replicate (image_length b p) 0xFF) (blank_patches b p l)

-- The device that it means.
abbrev pub blank_flash : ℕ → ℕ → ℕ → Flash
blank_flash b p l = record {
  blocks = b;
  pages = p;
  life = l;
  count = λ _. 0;
  page = λ _ _. blank;
}

-- What the check reads of n bytes that state b blocks, p pages and the life l wherever they have a place for it. The counts of the last three
-- sections are held at the most that four bytes can say, which no geometry in range comes to.
abbrev pub planned : ℕ → ℕ → ℕ → ℕ → Words
planned n b p l = record {
  size = n;
  word = λ k. cond (k == 0) 3 (cond (k == 4) b (cond (k == 8) p (cond (k == 12) l (cond (k == 16) b (min (b * p) 0xFFFFFFFF)))));
}

-- What the check will say of such bytes.
abbrev pub room_checked : ℕ → ℕ → ℕ → ℕ → Checked
room_checked n b p l = checked_in (planned n b p l)

-- What the writer's answer says, in the check's terms.
abbrev pub room_told : Geometry → Result (Unit {0}) ImageFault → Checked
room_told g (Ok u) = accepted g.blocks g.pages g.life
room_told g (Err e) = faulty (fault_number e) (fault_section e) (fault_byte e)

-- Bytes that have, wherever they are long enough for it, the counts and numbers of an image of b blocks, p pages and the life l.
pub record States (bs : List ℕ) (b p l : ℕ) : Type 0 where
  pub first : 4 ≤ length bs → word bs 0 ≡ 3
  pub blocks : 8 ≤ length bs → word bs 4 ≡ b
  pub pages : 12 ≤ length bs → word bs 8 ≡ p
  pub life : 16 ≤ length bs → word bs 12 ≡ l
  pub counts : 20 ≤ length bs → word bs 16 ≡ b
  pub sectors : 24 + 4 * b ≤ length bs → word bs (20 + 4 * b) ≡ b * p
  pub stamps : 28 + 4 * b + 4 * (b * p) ≤ length bs → word bs (24 + 4 * b + 4 * (b * p)) ≡ b * p
  pub contents : 32 + 4 * b + 8 * (b * p) ≤ length bs → word bs (28 + 4 * b + 8 * (b * p)) ≡ b * p

-- The answer is the check's: it says so of all such bytes.
abbrev pub Verdict : ℕ → ℕ → ℕ → ℕ → Type 0
Verdict n b p l = (bs : List ℕ) → length bs ≡ n → States bs b p l → checked bs ≡ room_checked n b p l
