use Rattle.std.proofs.Common.{ap, ◌∙◌, subst}
use Rattle.scheme.specs.Steps.{append_random}
use Rattle.fast.specs.Leaves.{at, Left, page_made}
use Rattle.fast.specs.Meaning.{view_of}
use Rattle.fast.proofs.Measures.{pages_of}
use Rattle.fast.proofs.Rooms.{random_written}
use Rattle.fast.proofs.steps.writes.write_random.Goals as goal

pub returns : goal.returns
returns g c =
    let t = c.args.tables in
    let v = c.make_room-tables.result.tables in
    let flash = g.D.Device.flash in
    let d = c.make_room-tables.ensures in
    let r = c.append_rw.ensures in
    let n = c.args.page.mark.sector.0 in
    let x = page_made c.args.page in
    let next : Left (append_random t.sizes.pages n x (at (flash c.make_room-tables.new.device) (view_of v))) (flash c.append_rw.new.device) (view_of c.append_rw.result) 0 0 =
    subst (λ p. Left (append_random p n x (at (flash c.make_room-tables.new.device) (view_of v))) (flash c.append_rw.new.device) (view_of c.append_rw.result) 0 0) (ap pages_of d.work.sized.0) r.work.writes in
    record {
      work = record { does = random_written t.sizes.pages t.sizes.random n x (at (flash c.args.device.now) (view_of t)) (flash c.make_room-tables.new.device) (flash c.append_rw.new.device) (view_of v) (view_of c.append_rw.result) _ _ d.work.does next; sized = (r.work.sized.0 ∙ d.work.sized.0, r.work.sized.1 ∙ d.work.sized.1) };
    }
