use Rattle.fast.specs.Meaning.{view_of}
use Rattle.fast.specs.Views.{sequential_of}
use Rattle.fast.proofs.Starts.{appends}
use Rattle.fast.proofs.steps.writes.append_sw.Goals as goal

pub returns : goal.returns
returns g c =
    let t = c.args.tables in
    let flash = g.D.Device.flash in
    record {
      work = record { writes = appends t.sizes.pages c.args.page.mark.sector.0 c.args.sw.fill _ (sequential_of c.args.sw) (flash c.args.device.now) (flash c.program.new.self) (view_of t) (view_of c.extend.result) c.program.ensures.after c.extend.ensures.tables; sized = c.extend.ensures.sized };
    }
