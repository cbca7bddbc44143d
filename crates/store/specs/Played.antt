-- Calls on a store, and the ledger of its first table.
use Rattle.std.specs.Prelude.{◌≡◌}
use Rattle.scheme.specs.Ledger.{Call, Reply, Ledger, ledger_next, Answered}
use Rattle.store.specs.Meaning.{Table}

-- The ledger whose lines are a table's, with nothing overwritten yet.
abbrev pub ledger_of : Table → Ledger
ledger_of t = record { size = t.size; line = t.line; overwrites = 0 }

-- A call on a store that means t, and u after it: the reply is as the ledger says, and the table is what the ledger becomes.
pub record Made (t u : Table) (c : Call) (r : Reply) : Type 0 where
  pub answered : Answered (ledger_of t) c r
  pub size : u.size ≡ t.size
  pub line : u.line ≡ (ledger_next (ledger_of t) c r.answer).line
