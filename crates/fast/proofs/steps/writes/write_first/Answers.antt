use Rattle.std.proofs.Common.{◌<◌, length, vec_items, ap, ◌∙◌, arith}
use Rattle.scheme.specs.Work.{put_page}
use Rattle.fast.specs.Leaves.{page_made}
use Rattle.fast.specs.Meaning.{view_of}
use Rattle.fast.proofs.Accepted.{first_written}
use Rattle.fast.proofs.Counts.{get_or_numbers}
use Rattle.fast.proofs.steps.writes.write_first.Goals as goal

pub returns : goal.returns
returns g c =
    let t = c.args.tables.now in
    let flash = g.D.Device.flash in
    let x = page_made c.args.page in
    let h : c.args.b.0 < length (vec_items t.map) = omega (arith, t.map.ok.0, t.mapped, c.requires.known) in
    first_written t.sizes.pages c.args.b.0 c.args.o.0 x (flash c.args.device.now) (flash c.program.new.self) (view_of t)
    (c.program.ensures.after ∙ ap (λ b. put_page (flash c.args.device.now) b c.args.o.0 x) (get_or_numbers (vec_items t.map) c.args.b.0 c.index.result.now h c.index.ensures))
