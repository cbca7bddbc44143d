-- What a layer means as a sector store.
use Rattle.std.specs.Prelude.{ℕ, cond, ◌&&◌, List, None, Option, ◌==◌, nat_lt}
use Rattle.scheme.specs.Law.{Reached}
use Rattle.scheme.specs.Ledger.{Call}
use Rattle.scheme.specs.Runs.{Start, Layer, sectors, content, replaces, worn}
use Rattle.store.specs.Meaning.{Table}

-- What the device shows in the place of sector n.
abbrev pub layer_line : Layer → ℕ → Option (List ℕ)
layer_line y n = cond (nat_lt n (sectors y)) (content y n) None

-- 12 where the next write of sector n could wear out a block, which only an overwrite can, and else 14 where the stamps are used up.
abbrev pub next_refusal : Layer → ℕ → ℕ
next_refusal y n = cond (replaces y n && worn y) 12 (cond (y.state.tables.next == 0xFFFFFFFF) 14 0)

abbrev pub layer_bar : Layer → ℕ → ℕ
layer_bar y n = cond (nat_lt n (sectors y)) (next_refusal y n) 0

abbrev pub layer_table : Layer → Table
layer_table y = record { size = sectors y; line = layer_line y; bar = layer_bar y }

-- Format on some device and then some calls lead to the layer.
abbrev pub Reachable : Layer → Type 0
Reachable y = (start : Start) × (calls : List Call) × Reached start calls y
