use Rattle.std.proofs.Common.{refl}
use Rattle.fast.specs.Leaves.{at}
use Rattle.fast.specs.Meaning.{view_of}
use Rattle.fast.proofs.Starts.{settles_owner}
use Rattle.fast.proofs.steps.writes.settle_owner.Goals as goal

pub returns-clause-work : goal.returns-clause-work
returns-clause-work g c =
    let t = c.args.tables in
    let flash = g.D.Device.flash in
    let d = c.merge_sw.ensures in
    record { does = settles_owner t.sizes.pages (at (flash c.args.device.now) (view_of t)) t.sw c.in-Some.sw (flash c.merge_sw.new.device) (view_of c.merge_sw.result.tables) _ _ refl c.in-Some.is d.work.does; sized = d.work.sized }
