use Rattle.std.proofs.Common.{ap, ◌∙◌, subst}
use Rattle.scheme.specs.Steps.{open_sequential}
use Rattle.fast.specs.Leaves.{at, Left, page_made}
use Rattle.fast.specs.Meaning.{view_of}
use Rattle.fast.proofs.Measures.{pages_of}
use Rattle.fast.proofs.Rooms.{start_written}
use Rattle.fast.proofs.steps.writes.write_start.Goals as goal

pub returns : goal.returns
returns g c =
    let t = c.args.tables in
    let v = c.settle_owner-tables.result.tables in
    let flash = g.D.Device.flash in
    let d = c.settle_owner-tables.ensures in
    let r = c.open_sw.ensures in
    let x = page_made c.args.page in
    let next : Left (open_sequential t.sizes.pages c.args.b.0 x (view_of v).free (at (flash c.settle_owner-tables.new.device) (view_of v))) (flash c.open_sw.new.device) (view_of c.open_sw.result) 0 0 =
    subst (λ p. Left (open_sequential p c.args.b.0 x (view_of v).free (at (flash c.settle_owner-tables.new.device) (view_of v))) (flash c.open_sw.new.device) (view_of c.open_sw.result) 0 0) (ap pages_of d.work.sized.0) r.work.writes in
    record {
      work = record { does = start_written t.sizes.pages c.args.b.0 x (at (flash c.args.device.now) (view_of t)) (flash c.settle_owner-tables.new.device) (flash c.open_sw.new.device) (view_of v) (view_of c.open_sw.result) _ _ d.work.does next; sized = (r.work.sized.0 ∙ d.work.sized.0, r.work.sized.1 ∙ d.work.sized.1) };
    }
