-- The rules of the code's tables, as counts: each block has one role, and no sector two live entries.
use Rattle.std.specs.Prelude.{◌≡◌, ℕ, ◌+◌, ◌≤◌, cond, List, [], ◌∷◌, Some, None, Option, ◌==◌, nat_lt}
use Rattle.flash.specs.declared.numbers.Block.{Block}
use Rattle.scheme.specs.Tables.{Entry, live, stale}
use Rattle.fast.specs.declared.tables.sequential.Sw.{Sw}

-- 1 where the two are the same number
abbrev pub same : ℕ → ℕ → ℕ
same a b = cond (a == b) 1 0

-- how often block b stands in a list
abbrev pub uses : ℕ → List Block → ℕ
uses b [] = 0
uses b (x ∷ xs) = same b x.0 + uses b xs

abbrev pub uses_sw : ℕ → Option Sw → ℕ
uses_sw b None = 0
uses_sw b (Some k) = same b k.block.0

abbrev pub busy : Option Sw → ℕ
busy None = 0
busy (Some k) = 1

-- how many live entries sector n has
abbrev pub live_entries : ℕ → List Entry → ℕ
live_entries n [] = 0
live_entries n (live m ∷ es) = same n m + live_entries n es
live_entries n (stale ∷ es) = live_entries n es

-- each block of the device has one role: data, sequential log, random log or free
abbrev pub OneRole : ℕ → List Block → Option Sw → List Block → List Block → Type 0
OneRole B map sw logs free = (b : ℕ) → uses b map + uses_sw b sw + uses b logs + uses b free ≡ cond (nat_lt b B) 1 0

-- no sector has two live entries, and only sectors of the layer have one
abbrev pub OneLive : ℕ → List Entry → Type 0
OneLive size entries = (n : ℕ) → live_entries n entries ≤ cond (nat_lt n size) 1 0

-- the owner and the fill of the sequential log block: 0 where there is none
abbrev pub owner_of : Option Sw → ℕ
owner_of None = 0
owner_of (Some k) = k.owner.0

abbrev pub fill_of : Option Sw → ℕ
fill_of None = 0
fill_of (Some k) = k.fill
