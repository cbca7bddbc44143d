-- What a window means: some blocks of a device in a row, with its pages and its life.
use Rattle.std.specs.Prelude.{◌≡◌, ℕ, ◌+◌, ◌-◌, ◌<◌, ◌≤◌, min, cond, List, Ok, Err, Result, nat_lt}
use Rattle.flash.specs.Calls.{programmed, erased}
use Rattle.flash.specs.Meaning.{blank, Flash}
use Rattle.flash.specs.declared.device.Refusal.{Refusal}
use Rattle.flash.specs.declared.device.Refusal.TheVariants.{NoSuchBlock}
use Rattle.flash.specs.declared.numbers.Block.{Block}

-- How many of n blocks from block `first` on the device has: none from its end on.
abbrev pub windowed_blocks : Flash → ℕ → ℕ → ℕ
windowed_blocks f first n = min n (f.blocks - first)

abbrev pub windowed : Flash → ℕ → ℕ → Flash
windowed f first n = record {
  blocks = windowed_blocks f first n;
  pages = f.pages;
  life = f.life;
  count = λ c. cond (nat_lt c (windowed_blocks f first n)) (f.count (first + c)) 0;
  page = λ c i. cond (nat_lt c (windowed_blocks f first n)) (f.page (first + c) i) blank;
}

-- Which block of the device block b of the window is.
abbrev pub Shows : Flash → ℕ → ℕ → ℕ → Result Block Refusal → Type 0
Shows f first n b (Ok c) = (b < windowed_blocks f first n) × (c.0 ≡ first + b)
Shows f first n b (Err e) = (windowed_blocks f first n ≤ b) × (e ≡ NoSuchBlock)

-- The device below after the window was asked to program page o of its block b, and to erase that block: as if it was asked itself, where the
-- window has such a block. The blocks outside of the window are as they were.
abbrev pub below_programmed : Flash → ℕ → ℕ → ℕ → ℕ → ℕ → ℕ → List ℕ → Flash
below_programmed f first n b o s t bs = cond (nat_lt b (windowed_blocks f first n)) (programmed f (first + b) o s t bs) f

abbrev pub below_erased : Flash → ℕ → ℕ → ℕ → Flash
below_erased f first n b = cond (nat_lt b (windowed_blocks f first n)) (erased f (first + b)) f
