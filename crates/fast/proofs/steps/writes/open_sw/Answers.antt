use Rattle.std.proofs.Common.{◌<◌, length, deque_items, ap, ◌∙◌, arith}
use Rattle.scheme.specs.Work.{put_page}
use Rattle.fast.specs.Leaves.{page_made}
use Rattle.fast.specs.Meaning.{view_of}
use Rattle.fast.specs.Views.{numbers}
use Rattle.fast.proofs.Counts.{some_free}
use Rattle.fast.proofs.Rooms.{length_numbers}
use Rattle.fast.proofs.Starts.{opens}
use Rattle.fast.proofs.steps.writes.open_sw.Goals as goal

pub returns : goal.returns
returns g c =
    let t = c.args.tables in
    let flash = g.D.Device.flash in
    let x = page_made c.args.page in
    let some : 0 < length (numbers (deque_items t.free.blocks)) = omega (arith, length_numbers (deque_items t.free.blocks), some_free t) in
    record {
      work = record {
        writes =
            opens t.sizes.pages c.args.b.0 x (view_of t).free (flash c.args.device.now) (flash c.program.new.self) (view_of t) (view_of c.open.result) some
            (c.program.ensures.after ∙ ap (λ b. put_page (flash c.args.device.now) b 0 x) c.first_free-to.ensures) c.open.ensures.tables;
        sized = c.open.ensures.sized;
      };
    }
