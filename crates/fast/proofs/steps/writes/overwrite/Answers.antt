use Rattle.std.proofs.Common.{sym}
use Rattle.fast.specs.Leaves.{at, page_made}
use Rattle.fast.specs.Meaning.{view_of}
use Rattle.fast.specs.Views.{sequential_of}
use Rattle.fast.proofs.Accepted.{over_start, over_owned, over_random}
use Rattle.fast.proofs.steps.writes.overwrite.Goals as goal

pub returns-then-o-eq0 : goal.returns-then-o-eq0
returns-then-o-eq0 g c =
    let t = c.args.tables in
    let flash = g.D.Device.flash in
    let n = c.args.page.mark.sector.0 in
    let x = page_made c.args.page in
    let s = at (flash c.args.device.now) (view_of t) in
    record {
      work = record { does = over_start t.sizes.pages t.sizes.random n c.args.b.0 c.args.o.0 x s (flash c.write_start.new.device) (view_of c.write_start.result.tables) _ _ c.if-o-eq0.true c.write_start.ensures.work.does; sized = c.write_start.ensures.work.sized };
    }

pub returns-in-Some : goal.returns-in-Some
returns-in-Some g c =
    let t = c.args.tables in
    let flash = g.D.Device.flash in
    let n = c.args.page.mark.sector.0 in
    let x = page_made c.args.page in
    let s = at (flash c.args.device.now) (view_of t) in
    let has = c.in-Some.ensures.has in
    record {
      work = record { does = over_owned t.sizes.pages t.sizes.random n c.args.b.0 c.args.o.0 x s (flash c.write_sequential.new.device) (view_of c.write_sequential.result.tables) _ _ c.if-o-eq0.false (sequential_of c.in-Some.sw) (sym c.in-Some.ensures.view) has.1 c.write_sequential.ensures.work.does; sized = c.write_sequential.ensures.work.sized };
    }

pub returns-in-None : goal.returns-in-None
returns-in-None g c =
    let t = c.args.tables in
    let flash = g.D.Device.flash in
    let n = c.args.page.mark.sector.0 in
    let x = page_made c.args.page in
    let s = at (flash c.args.device.now) (view_of t) in
    record {
      work = record { does = over_random t.sizes.pages t.sizes.random n c.args.b.0 c.args.o.0 x s (flash c.write_random.new.device) (view_of c.write_random.result.tables) _ _ c.if-o-eq0.false (sym c.in-None.ensures.view) c.write_random.ensures.work.does; sized = c.write_random.ensures.work.sized };
    }
