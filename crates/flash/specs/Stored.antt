-- What the bytes of an image mean as a device, and which of them a program and an erase change.
use Rattle.std.specs.Prelude.{◌≡◌, ℕ, ◌+◌, ◌*◌, ◌≤◌, cond, ◌&&◌, List, [], ◌∷◌, take, drop, replicate, Some, None, Option, ◌==◌, nat_lt}
use Rattle.flash.specs.Meaning.{Page, blank, holds, Flash}
use Rattle.flash.specs.Patched.{all_patched}
use Rattle.image.specs.declared.shape.Geometry.{Geometry}
use Rattle.image.specs.Format.{
  word,
  word_bytes,
  image_length,
  count_place,
  sector_place,
  stamp_place,
  bytes_place,
  Checked,
  accepted,
  faulty,
  checked,
}

-- Page n of all, in an image of b blocks of p pages: blank exactly when its sector number is 0xFFFFFFFF, whatever its stamp and bytes are.
unfoldable pub page_at : List ℕ → ℕ → ℕ → ℕ → Page
page_at bs b p n =
    cond (word bs (sector_place b n) == 0xFFFFFFFF) blank
    (holds (word bs (sector_place b n)) (word bs (stamp_place b p n)) (take 512 (drop (bytes_place b p n) bs)))

-- The device of b blocks, p pages a block and the life l whose counts and pages stand in bs.
abbrev pub image_of : List ℕ → ℕ → ℕ → ℕ → Flash
image_of bs b p l = record {
  blocks = b;
  pages = p;
  life = l;
  count = λ c. cond (nat_lt c b) (word bs (count_place c)) 0;
  page = λ c i. cond (nat_lt c b && nat_lt i p) (page_at bs b p (c * p + i)) blank;
}

abbrev pub image_in : List ℕ → Geometry → Flash
image_in bs g = image_of bs g.blocks g.pages g.life

-- What bytes mean to a chip of this geometry; without one they are no image, and mean a device without blocks, pages and life.
abbrev pub chip_flash : List ℕ → Option Geometry → Flash
chip_flash bs None = image_of bs 0 0 0
chip_flash bs (Some g) = image_in bs g

-- The geometry that the check finds, and none where it refuses the bytes.
abbrev pub geometry_by : Checked → Option Geometry
geometry_by (accepted b p l) = Some (record { blocks = b; pages = p; life = l })
geometry_by (faulty m s k) = None

-- What bytes mean: the device that they are the image of, and one without blocks, pages and life where the check refuses them.
unfoldable pub image_flash : List ℕ → Flash
image_flash bs = chip_flash bs (geometry_by (checked bs))

-- The n bytes of an image have its geometry g.
pub record Fits (n : ℕ) (g : Geometry) : Type 0 where
  pub long : n ≡ image_length g.blocks g.pages
  pub some_blocks : 1 ≤ g.blocks
  pub most_blocks : g.blocks ≤ 4096
  pub some_pages : 1 ≤ g.pages
  pub most_pages : g.pages ≤ 64
  pub some_life : 1 ≤ g.life
  pub most_life : g.life ≤ 100000

-- The bytes after page n is programmed: its sector number, its stamp and its bytes.
abbrev pub image_programmed : List ℕ → ℕ → ℕ → ℕ → ℕ → ℕ → List ℕ → List ℕ
image_programmed bs b p n s t ys =
    all_patched bs ((sector_place b n, word_bytes s) ∷ (stamp_place b p n, word_bytes t) ∷ (bytes_place b p n, ys) ∷ [])

-- The bytes after block c is erased: its count is one more, and its sector numbers, stamps and bytes have all bits set.
abbrev pub image_erased : List ℕ → ℕ → ℕ → ℕ → List ℕ
image_erased bs b p c =
    all_patched bs
    ((count_place c, word_bytes (word bs (count_place c) + 1))
    ∷ (sector_place b (c * p), replicate (4 * p) 0xFF)
    ∷ (stamp_place b p (c * p), replicate (4 * p) 0xFF)
    ∷ (bytes_place b p (c * p), replicate (512 * p) 0xFF)
    ∷ [])

-- The same for page o of block c, and for block c, of a chip.
abbrev pub chip_programmed : List ℕ → Option Geometry → ℕ → ℕ → ℕ → ℕ → List ℕ → List ℕ
chip_programmed bs None c o s t ys = bs
chip_programmed bs (Some g) c o s t ys = image_programmed bs g.blocks g.pages (c * g.pages + o) s t ys

abbrev pub chip_erased : List ℕ → Option Geometry → ℕ → List ℕ
chip_erased bs None c = bs
chip_erased bs (Some g) c = image_erased bs g.blocks g.pages c

-- Bytes bs have become bs', which are to mean f: the check says the same of them, and they do mean it.
abbrev pub StaysImage : List ℕ → List ℕ → Flash → Type 0
StaysImage bs bs' f = (checked bs' ≡ checked bs) × (image_flash bs' ≡ f)
