-- What the parts of the code's tables mean, in the terms of the scheme.
use Rattle.std.specs.Prelude.{ℕ, ◌-◌, Bool, cond, ◌&&◌, List, [], ◌∷◌, map, Some, None, Option, nat_le, nat_lt, slice_index}
use Rattle.flash.specs.declared.numbers.Block.{Block}
use Rattle.scheme.specs.Tables as scheme
use Rattle.fast.specs.declared.tables.random.Entry.TheVariants.{Live, Stale}
use Rattle.fast.specs.declared.tables.random.Entry.{Entry}
use Rattle.fast.specs.declared.tables.sequential.Sw.{Sw}

-- the numbers of a list of blocks
abbrev pub numbers : List Block → List ℕ
numbers bs = map (λ b. b.0) bs

abbrev pub first_of : List Block → Option Block
first_of [] = None
first_of (b ∷ bs) = Some b

abbrev pub entry_view : Entry → scheme.Entry
entry_view (Live n) = scheme.live n.0
entry_view Stale = scheme.stale

abbrev pub entries_view : List Entry → List scheme.Entry
entries_view es = map entry_view es

-- n is one of `count` numbers from `first` on
abbrev pub in_run : ℕ → ℕ → ℕ → Bool
in_run first count n = nat_le first n && nat_lt (n - first) count

-- an entry after the sectors of a run expired
abbrev pub expired_entry : ℕ → ℕ → Entry → Entry
expired_entry first count (Live n) = cond (in_run first count n.0) Stale (Live n)
expired_entry first count Stale = Stale

abbrev pub sequential_of : Sw → scheme.Sequential
sequential_of k = record { owner = k.owner.0; block = k.block.0; fill = k.fill }

abbrev pub sw_view : Option Sw → Option scheme.Sequential
sw_view None = None
sw_view (Some k) = Some (sequential_of k)

-- the tables, from what their parts hold
abbrev pub view : List Block → Option Sw → List Block → List Entry → List Block → ℕ → scheme.Tables
view map sw logs entries free next =
    record {
      data_block = λ c. slice_index (numbers map) c;
      sequential = sw_view sw;
      logs = numbers logs;
      entries = entries_view entries;
      free = numbers free;
      next = next;
    }
