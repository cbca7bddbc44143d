-- What the check's answer means in the terms of chips and their images, whatever the check does to find it.
use Rattle.std.specs.Prelude.{◌≡◌, ℕ, ◌+◌, ◌*◌, ◌<◌, ◌≤◌, cond, List, length, take, ◌==◌, ◌≢◌}
use Rattle.image.specs.Chip.{Chip, InRange, encoding}
use Rattle.image.specs.Format.{word, Checked, accepted, faulty}

-- A section of an image: the byte at which its count stands, that count, and how many bytes its items take.
pub record Extent : Type 0 where
  pub start : ℕ
  pub count : ℕ
  pub size : ℕ

-- Section s, from 1 to 5, of an image of b blocks of p pages.
abbrev pub extent : ℕ → ℕ → ℕ → Extent
extent b p s =
    cond (s == 1) (record { start = 0; count = 3; size = 12 })
    (cond (s == 2) (record { start = 16; count = b; size = 4 * b })
    (cond (s == 3) (record { start = 20 + 4 * b; count = b * p; size = 4 * (b * p) })
    (cond (s == 4) (record { start = 24 + 4 * b + 4 * (b * p); count = b * p; size = 4 * (b * p) })
    (record { start = 28 + 4 * b + 8 * (b * p); count = b * p; size = 512 * (b * p) }))))

-- The most that the number at byte k of section 1 may be: B, P or life.
abbrev pub most_at : ℕ → ℕ
most_at k = cond (k == 4) 4096 (cond (k == 8) 64 100000)

-- What a fault says of byte k, in the section s that has the extent x.
pub data Wrong (bs : List ℕ) (x : Extent) (m s k : ℕ) : Type 0 where
  count_cut : m ≡ 7 → k ≡ x.start → length bs < k + 4 → Wrong bs x m s k
  items_cut : m ≡ 7 → k ≡ x.start + 4 → length bs < k + x.size → Wrong bs x m s k
  count_wrong : m ≡ 8 → k ≡ x.start → k + 4 ≤ length bs → (word bs k ≢ x.count) → Wrong bs x m s k
  out_of_range : m ≡ 9 → s ≡ 1 → 4 ≤ k → (1 ≤ word bs k → word bs k ≤ most_at k → ⊥) → Wrong bs x m s k
  surplus : m ≡ 10 → s ≡ 5 → k ≡ x.start + 4 + x.size → k < length bs → Wrong bs x m s k

-- A fault in its place: the bytes before byte k begin the image of some chip, and at byte k it cannot go on.
pub record FaultAt (bs : List ℕ) (m s k : ℕ) : Type 0 where
  pub chip : Chip
  pub in_range : InRange chip
  pub begins : take k bs ≡ take k (encoding chip)
  pub wrong : Wrong bs (extent chip.blocks chip.pages s) m s k

-- The bytes are accepted exactly when they are the image of a chip in range, and then B, P and life are that chip's.
pub record CheckLaw (bs : List ℕ) (x : Checked) : Type 0 where
  pub takes_images : (c : Chip) → InRange c → encoding c ≡ bs → x ≡ accepted c.blocks c.pages c.life
  pub takes_only_images : (b p l : ℕ) → x ≡ accepted b p l →
      (c : Chip) × InRange c × (encoding c ≡ bs) × (c.blocks ≡ b) × (c.pages ≡ p) × (c.life ≡ l)
  pub places_faults : (m s k : ℕ) → x ≡ faulty m s k → FaultAt bs m s k
