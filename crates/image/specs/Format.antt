-- The bytes of a chip image, and what its check finds: the first fault, or the geometry.
use Rattle.std.specs.Prelude.{ℕ, zero, suc, ◌+◌, ◌*◌, ◌/◌, ◌%◌, cond, ◌&&◌, List, [], ◌∷◌, length, ◌==◌, nat_le, nat_lt, slice_index}

-- The number at byte k: four bytes, the lowest first.
unfoldable pub word : List ℕ → ℕ → ℕ
word bs k = slice_index bs k + slice_index bs (k + 1) * 256 + slice_index bs (k + 2) * 65536 + slice_index bs (k + 3) * 16777216

-- The four bytes of a number below 2 ^ 32.
abbrev pub word_bytes : ℕ → List ℕ
word_bytes n = n % 256 ∷ n / 256 % 256 ∷ n / 65536 % 256 ∷ n / 16777216 % 256 ∷ []

-- n items from byte k on, each read from its first byte and m bytes long.
abbrev pub items_from : {X : Type 0} → (ℕ → X) → ℕ → ℕ → ℕ → List X
items_from item m k zero = []
items_from item m k (suc n) = item k ∷ items_from item m (k + m) n

-- n numbers from byte k on.
abbrev pub words_from : List ℕ → ℕ → ℕ → List ℕ
words_from bs k n = items_from (word bs) 4 k n

-- How long the image of b blocks of p pages is.
abbrev pub image_length : ℕ → ℕ → ℕ
image_length b p = 32 + 4 * b + 520 * (b * p)

-- Where the erase count of block c stands, and the sector number, the stamp and the bytes of page n of all, in an image of b blocks of p pages.
abbrev pub count_place : ℕ → ℕ
count_place c = 20 + 4 * c

abbrev pub sector_place : ℕ → ℕ → ℕ
sector_place b n = 24 + 4 * b + 4 * n

abbrev pub stamp_place : ℕ → ℕ → ℕ → ℕ
stamp_place b p n = 28 + 4 * b + 4 * (b * p) + 4 * n

abbrev pub bytes_place : ℕ → ℕ → ℕ → ℕ
bytes_place b p n = 32 + 4 * b + 8 * (b * p) + 512 * n

-- What a reader finds: a value, or a fault's number and byte.
pub data Found : Type 0 where
  found : ℕ → Found
  fault : ℕ → ℕ → Found

-- What the check of an image reads: how many bytes there are, and the number that stands at each of them.
pub record Words : Type 0 where
  pub size : ℕ
  pub word : ℕ → ℕ

abbrev pub in_bytes : List ℕ → Words
in_bytes bs = record { size = length bs; word = word bs }

module _ (x : Words) where
  -- The number at byte k.
  unfoldable pub number_at : ℕ → Found
  number_at k = cond (nat_lt x.size (k + 4)) (fault 7 k) (found (x.word k))

  -- The number at byte k, which is to be from 1 to most.
  unfoldable pub ranged_at : ℕ → ℕ → Found
  ranged_at k most =
      cond (nat_lt x.size (k + 4)) (fault 7 k)
      (cond (nat_le 1 (x.word k) && nat_le (x.word k) most) (found (x.word k)) (fault 9 k))

  -- The end of a section that begins at byte k, whose count is to be n and whose items take m bytes.
  unfoldable pub section_at : ℕ → ℕ → ℕ → Found
  section_at k n m =
      cond (nat_lt x.size (k + 4)) (fault 7 k)
      (cond (x.word k == n)
      (cond (nat_lt x.size (k + 4 + m)) (fault 7 (k + 4)) (found (k + 4 + m)))
      (fault 8 k))

  -- Byte k, which is to be the end of all bytes.
  unfoldable pub end_at : ℕ → Found
  end_at k = cond (nat_lt k x.size) (fault 10 k) (found k)

-- The same with its section: a value, or a fault's number, section and byte.
pub data Placed : Type 0 where
  placed : ℕ → Placed
  misplaced : ℕ → ℕ → ℕ → Placed

abbrev pub within : ℕ → Found → Placed
within s (found n) = placed n
within s (fault m k) = misplaced m s k

-- What the check of an image says: blocks, pages a block and life, or a fault's number, section and byte.
pub data Checked : Type 0 where
  accepted : ℕ → ℕ → ℕ → Checked
  faulty : ℕ → ℕ → ℕ → Checked

-- Goes on with what was found, and stops at a fault.
abbrev pub and_then : Placed → (ℕ → Checked) → Checked
and_then (placed n) next = next n
and_then (misplaced m s k) next = faulty m s k

-- The same after section 1.
abbrev pub with_shape : Checked → (ℕ → ℕ → ℕ → Checked) → Checked
with_shape (accepted b p l) next = next b p l
with_shape (faulty m s k) next = faulty m s k

module _ (x : Words) where
  -- Section 1: its count and its 12 bytes, then blocks, pages and life in range.
  abbrev pub shape_life : ℕ → ℕ → Checked
  shape_life b p = and_then (within 1 (ranged_at x 12 100000)) (λ l. accepted b p l)

  abbrev pub shape_pages : ℕ → Checked
  shape_pages b = and_then (within 1 (ranged_at x 8 64)) (λ p. shape_life b p)

  abbrev pub shape_blocks : Checked
  shape_blocks = and_then (within 1 (ranged_at x 4 4096)) (λ b. shape_pages b)

  unfoldable pub shape_at : Checked
  shape_at = and_then (within 1 (section_at x 0 3 12)) (λ _. shape_blocks)

  -- The other sections from the last one back, and the end: the image says b blocks, p pages and the life l, and the part begins at byte k.
  abbrev pub checked_end : ℕ → ℕ → ℕ → ℕ → Checked
  checked_end b p l k = and_then (within 5 (end_at x k)) (λ _. accepted b p l)

  abbrev pub checked_contents : ℕ → ℕ → ℕ → ℕ → Checked
  checked_contents b p l k = and_then (within 5 (section_at x k (b * p) (512 * (b * p)))) (checked_end b p l)

  abbrev pub checked_stamps : ℕ → ℕ → ℕ → ℕ → Checked
  checked_stamps b p l k = and_then (within 4 (section_at x k (b * p) (4 * (b * p)))) (checked_contents b p l)

  abbrev pub checked_sectors : ℕ → ℕ → ℕ → ℕ → Checked
  checked_sectors b p l k = and_then (within 3 (section_at x k (b * p) (4 * (b * p)))) (checked_stamps b p l)

  abbrev pub checked_counts : ℕ → ℕ → ℕ → Checked
  checked_counts b p l = and_then (within 2 (section_at x 16 b (4 * b))) (checked_sectors b p l)

  -- The whole check.
  unfoldable pub checked_in : Checked
  checked_in = with_shape shape_at checked_counts

-- The check of bytes.
abbrev pub checked : List ℕ → Checked
checked bs = checked_in (in_bytes bs)
