use Rattle.fast.specs.Leaves.{at}
use Rattle.fast.proofs.Erased.{erased_none, erased_more}
use Rattle.fast.proofs.layer.erase_all.Goals as goal

pub loop-b-init : goal.loop-b-init
loop-b-init g c t = erased_none (at (g.D.Device.flash c.args.device.now) t)

pub loop-b-preserved : goal.loop-b-preserved
loop-b-preserved g c t = erased_more c.loop-b.b (at (g.D.Device.flash c.args.device.now) t) (g.D.Device.flash c.loop-b.device) (g.D.Device.flash c.erase.new.self) t (c.loop-b.invariant t) c.erase.ensures.after
