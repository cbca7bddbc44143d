use Rattle.std.proofs.Common.{◌≡◌, ◌+◌, length, vec_items}
use Rattle.console.specs.Lines.{lines}
use Rattle.console.specs.Running.{Does, Asks}
use Rattle.console.proofs.Progress.{Onward}
use Rattle.console.proofs.runner.run.Given as goal

abbrev pub invariant-loop-line : goal.invariant-loop-line
invariant-loop-line g l =
    (goal.iterator-loop-line g).can_next l.line-iterator
    × (goal.iterator-loop-line g).is_finite l.line-iterator
    × (l.line-iterator.a.start + length (lines l.line-iterator.b.0.now) ≡ 1 + length (lines l.input))
    × (g.S.Store.valid l.initial.store → g.S.Store.valid l.store)
    × (g.S.Store.valid l.initial.store →
    Onward Does (g.S.Store.table l.initial.store) (lines l.input) (g.S.Store.table l.store) l.line-iterator.a.start (lines l.line-iterator.b.0.now) (vec_items l.out.bytes))
    × Onward (Asks g.S.Store.makes) l.initial.store (lines l.input) l.store l.line-iterator.a.start (lines l.line-iterator.b.0.now) (vec_items l.out.bytes)
