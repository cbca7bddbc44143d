use Rattle.std.proofs.Common.{sym, refl}
use Rattle.fast.specs.Leaves.{at, fresh_view}
use Rattle.fast.specs.Meaning.{view_of}
use Rattle.fast.proofs.Carried.{settles_owned, settles_free}
use Rattle.fast.proofs.steps.merges.settle.Goals as goal

pub returns-in-Some-clause-work : goal.returns-in-Some-clause-work
returns-in-Some-clause-work g c =
    let t = c.args.tables in
    let flash = g.D.Device.flash in
    let d = c.merge_sw.ensures in
    let has = c.in-Some.ensures.has in
    record { does = settles_owned t.sizes.pages (fresh_view c.args.fresh) c.args.c.0 (at (flash c.args.device.now) (view_of t)) t.sw c.in-Some.sw (flash c.merge_sw.new.device) (view_of c.merge_sw.result.tables) _ _ refl has.0 has.1 d.work.does; sized = d.work.sized }

pub returns-in-None-clause-work : goal.returns-in-None-clause-work
returns-in-None-clause-work g c =
    let t = c.args.tables in
    let flash = g.D.Device.flash in
    let d = c.merge_free.ensures in
    record { does = settles_free t.sizes.pages (fresh_view c.args.fresh) c.args.c.0 (at (flash c.args.device.now) (view_of t)) (flash c.merge_free.new.device) (view_of c.merge_free.result.tables) _ _ (sym c.in-None.ensures.view) d.work.does; sized = d.work.sized }
