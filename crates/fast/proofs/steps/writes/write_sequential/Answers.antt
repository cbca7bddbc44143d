use Rattle.fast.specs.Leaves.{at, page_made}
use Rattle.fast.specs.Meaning.{view_of}
use Rattle.fast.specs.Views.{sequential_of}
use Rattle.fast.proofs.Rooms.{next_written, past_written, back_written}
use Rattle.fast.proofs.steps.writes.write_sequential.Goals as goal

pub returns-then-o-sw : goal.returns-then-o-sw
returns-then-o-sw g c =
    let t = c.args.tables in
    let k = c.args.sw in
    let flash = g.D.Device.flash in
    let x = page_made c.args.page in
    rw c.new.ensures (record {
      work = record { does = next_written t.sizes.pages c.args.page.mark.sector.0 k.owner.0 c.args.o.0 x (sequential_of k) (at (flash c.args.device.now) (view_of t)) (flash c.append_sw.new.device) (view_of c.append_sw.result) _ _ c.if-o-sw.true c.append_sw.ensures.work.writes; sized = c.append_sw.ensures.work.sized };
    })

pub returns-then-sw-o : goal.returns-then-sw-o
returns-then-sw-o g c =
    let t = c.args.tables in
    let k = c.args.sw in
    let flash = g.D.Device.flash in
    let x = page_made c.args.page in
    record {
      work = record { does = past_written t.sizes.pages c.args.page.mark.sector.0 k.owner.0 c.args.o.0 x (sequential_of k) (at (flash c.args.device.now) (view_of t)) (flash c.settle.new.device) (view_of c.settle.result.tables) _ _ c.if-o-sw.false c.if-sw-o.true c.settle.ensures.work.does; sized = c.settle.ensures.work.sized };
    }

pub returns : goal.returns
returns g c =
    let t = c.args.tables in
    let k = c.args.sw in
    let flash = g.D.Device.flash in
    let x = page_made c.args.page in
    record {
      work = record { does = back_written t.sizes.pages c.args.page.mark.sector.0 k.owner.0 c.args.o.0 x (sequential_of k) (at (flash c.args.device.now) (view_of t)) (flash c.merge_over.new.device) (view_of c.merge_over.result.tables) _ _ c.if-o-sw.false c.if-sw-o.false c.merge_over.ensures.work.does; sized = c.merge_over.ensures.work.sized };
    }
