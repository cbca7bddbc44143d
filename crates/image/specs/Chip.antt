-- A chip as an image shows it, and the bytes of that image: five counted sections, one after the other.
use Rattle.std.specs.Prelude.{◌≡◌, ℕ, ◌*◌, ◌^◌, ◌<◌, ◌≤◌, List, [], ◌∷◌, ◌++◌, length, replicate}
use Rattle.std.specs.List.{flat_map, AllByRecursion}
use Rattle.image.specs.Format.{word_bytes}

-- The pages stand block after block in the last three lists.
pub record Chip : Type 0 where
  pub blocks : ℕ
  pub pages : ℕ
  pub life : ℕ
  pub counts : List ℕ
  pub sectors : List ℕ
  pub stamps : List ℕ
  pub contents : List (List ℕ)

-- A section: how many items there are, then the items.
abbrev pub counted : {X : Type 0} → (X → List ℕ) → List X → List ℕ
counted bytes xs = word_bytes (length xs) ++ flat_map bytes xs

abbrev pub numbers : List ℕ → List ℕ
numbers = counted word_bytes

unfoldable pub encoding : Chip → List ℕ
encoding c =
    numbers (c.blocks ∷ c.pages ∷ c.life ∷ [])
    ++ (numbers c.counts ++ (numbers c.sectors ++ (numbers c.stamps ++ counted (λ page. page) c.contents)))

abbrev pub Fits32 : ℕ → Type 0
Fits32 n = n < 2 ^ 32

abbrev pub WholePage : List ℕ → Type 0
WholePage bytes = (length bytes ≡ 512) × AllByRecursion (λ b. b < 256) bytes

-- The chips that have an image.
pub record InRange (c : Chip) : Type 0 where
  pub some_blocks : 1 ≤ c.blocks
  pub most_blocks : c.blocks ≤ 4096
  pub some_pages : 1 ≤ c.pages
  pub most_pages : c.pages ≤ 64
  pub some_life : 1 ≤ c.life
  pub most_life : c.life ≤ 100000
  pub all_counts : length c.counts ≡ c.blocks
  pub all_sectors : length c.sectors ≡ c.blocks * c.pages
  pub all_stamps : length c.stamps ≡ c.blocks * c.pages
  pub all_contents : length c.contents ≡ c.blocks * c.pages
  pub counts_fit : AllByRecursion Fits32 c.counts
  pub sectors_fit : AllByRecursion Fits32 c.sectors
  pub stamps_fit : AllByRecursion Fits32 c.stamps
  pub contents_whole : AllByRecursion WholePage c.contents

-- A chip as it leaves the factory: never erased, all pages blank, with every bit set.
abbrev pub blank_chip : ℕ → ℕ → ℕ → Chip
blank_chip b p l = record {
  blocks = b;
  pages = p;
  life = l;
  counts = replicate b 0;
  sectors = replicate (b * p) 0xFFFFFFFF;
  stamps = replicate (b * p) 0xFFFFFFFF;
  contents = replicate (b * p) (replicate 512 0xFF);
}
