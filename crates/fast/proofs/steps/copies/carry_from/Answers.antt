use Rattle.std.proofs.Common.{arith}
use Rattle.fast.specs.Leaves.{fresh_view}
use Rattle.fast.specs.Meaning.{view_of}
use Rattle.fast.proofs.Carried.{carried_none, carried_more}
use Rattle.fast.proofs.steps.copies.carry_from.Goals as goal

pub loop-o-init : goal.loop-o-init
loop-o-init g c = (
  omega arith,
  carried_none c.args.tables.now.sizes.pages (fresh_view c.args.fresh) c.args.c.0 c.args.to.0 c.args.first (g.D.Device.flash c.args.device.now) (view_of c.args.tables.now),
)

pub loop-o-preserved : goal.loop-o-preserved
loop-o-preserved g c =
    let flash = g.D.Device.flash in (
      omega (arith, c.loop-o.invariant.0, c.carry-copies.ensures.few),
      carried_more c.args.tables.now.sizes.pages (fresh_view c.args.fresh) c.args.c.0 c.args.to.0 c.args.first c.loop-o.o (flash c.args.device.now) (flash c.loop-o.device) (flash c.carry-copies.new.device) (view_of c.args.tables.now) _ _
          c.loop-o.auto.o c.loop-o.invariant.1 c.carry-copies.ensures.work,
    )
