use Rattle.std.proofs.Common.{◌≡◌}
use Rattle.scheme.specs.Tables.{Tables}
use Rattle.scheme.specs.Work.{each, do_erase}
use Rattle.fast.specs.Leaves.{at}
use Rattle.fast.proofs.layer.erase_all.Given as goal

abbrev pub invariant-loop-b : goal.invariant-loop-b
invariant-loop-b g l = (t : Tables) → at (g.D.Device.flash l.device) t ≡ (each do_erase 0 l.b (at (g.D.Device.flash l.initial.device) t)).after
