-- Which side of a spread has a sector.
use Rattle.std.specs.Prelude.{◌≡◌, ℕ, ◌/◌, ◌%◌, ◌<◌, ◌≤◌, ◌≢◌, Ok, Err, Result}
use Rattle.fast.specs.declared.refusal.Refusal.{Refusal}
use Rattle.fast.specs.declared.refusal.Refusal.TheVariants.{NoSuchSector}
use Rattle.store.specs.declared.spread.Side.{Side}
use Rattle.store.specs.declared.spread.Side.TheVariants.{OnLeft, OnRight}

-- Sector n among so many: its side and its number there, or that there is none.
abbrev pub Lies : ℕ → ℕ → Result Side Refusal → Type 0
Lies size n (Ok (OnLeft there)) = (n < size) × (n % 2 ≡ 0) × (there.0 ≡ n / 2)
Lies size n (Ok (OnRight there)) = (n < size) × (n % 2 ≢ 0) × (there.0 ≡ n / 2)
Lies size n (Err e) = (size ≤ n) × (e ≡ NoSuchSector)
