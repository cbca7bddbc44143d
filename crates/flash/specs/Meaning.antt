-- What a flash device means: its geometry, its life, an erase count for each block and a state for each page.
use Rattle.std.specs.Prelude.{◌≡◌, ℕ, ◌≤◌, List, length, ◌≢◌}

-- A page is blank, or holds a sector number, a stamp and 512 bytes.
pub data Page : Type 0 where
  blank : Page
  holds : ℕ → ℕ → List ℕ → Page

-- `count` speaks of the blocks below `blocks`, and `page` of their pages below `pages`; outside they say 0 and blank, so that two devices
-- that mean the same are equal values. The first three never change.
pub record Flash : Type 0 where
  pub blocks : ℕ
  pub pages : ℕ
  pub life : ℕ
  pub count : ℕ → ℕ
  pub page : ℕ → ℕ → Page

-- What a page may hold: 512 bytes, under any sector number but the one that stands for none.
abbrev pub WellHeld : Page → Type 0
WellHeld blank = Unit {0}
WellHeld (holds s t bs) = (s ≢ 0xFFFFFFFF) × (length bs ≡ 512)

-- What every chip means is proper, and joins, windows, programs and erases keep it so: nothing outside the geometry, and no page that
-- could not have been programmed.
pub record Proper (f : Flash) : Type 0 where
  pub no_count : (c : ℕ) → f.blocks ≤ c → f.count c ≡ 0
  pub no_block : (c i : ℕ) → f.blocks ≤ c → f.page c i ≡ blank
  pub no_page : (c i : ℕ) → f.pages ≤ i → f.page c i ≡ blank
  pub well_held : (c i : ℕ) → WellHeld (f.page c i)
