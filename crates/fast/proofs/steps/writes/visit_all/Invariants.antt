use Rattle.std.proofs.Common.{◌*◌, ◌≤◌}
use Rattle.scheme.specs.Steps.{visit}
use Rattle.scheme.specs.Work.{each}
use Rattle.fast.specs.Leaves.{at, Left}
use Rattle.fast.specs.Meaning.{view_of, Sized, Logged}
use Rattle.fast.proofs.steps.writes.visit_all.Given as goal

abbrev pub invariant-loop-i : goal.invariant-loop-i
invariant-loop-i g l =
    let flash = g.D.Device.flash in
    Left (each (visit l.pages) 0 l.i (at (flash l.initial.device) (view_of l.initial.tables))) (flash l.device) (view_of l.tables) l.erases l.copies
    × Sized l.tables l.initial.tables
    × Logged l.tables l.initial.tables
    × (l.erases ≤ l.i)
    × (l.copies ≤ l.pages * l.i)
