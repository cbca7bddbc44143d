use Rattle.std.proofs.Common.{◌≡◌, ◌++◌, map, take, drop}
use Rattle.fast.specs.Views.{expired_entry}
use Rattle.fast.proofs.tables.random.expire_entries.Given as goal

abbrev pub invariant-loop-e : goal.invariant-loop-e
invariant-loop-e l = l.entries ≡ map (expired_entry l.first.0 l.count) (take l.e-index l.initial.entries) ++ drop l.e-index l.initial.entries
