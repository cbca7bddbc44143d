use Rattle.std.proofs.Common.{◌+◌, ◌-◌, ◌≤◌}
use Rattle.scheme.specs.Steps.{transfer}
use Rattle.scheme.specs.Work.{each}
use Rattle.fast.specs.Leaves.{at, fresh_view, Copied}
use Rattle.fast.specs.Meaning.{view_of}
use Rattle.fast.proofs.steps.copies.carry_from.Given as goal

abbrev pub invariant-loop-o : goal.invariant-loop-o
invariant-loop-o g l =
    let flash = g.D.Device.flash in
    (l.copies + l.first ≤ l.o)
    × Copied (each (transfer l.tables.sizes.pages (fresh_view l.fresh) l.c.0 l.to.0) l.first (l.o - l.first) (at (flash l.initial.device) (view_of l.tables))) (flash l.device) l.copies
