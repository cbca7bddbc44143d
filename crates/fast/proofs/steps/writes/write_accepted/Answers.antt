use Rattle.std.proofs.Common.{ap, sym, ◌∙◌}
use Rattle.fast.specs.Leaves.{at, is_first}
use Rattle.fast.specs.Meaning.{view_of}
use Rattle.fast.proofs.Accepted.{blank_written, used_written}
use Rattle.fast.proofs.steps.writes.write_accepted.Goals as goal

pub returns-in-First-clause-work : goal.returns-in-First-clause-work
returns-in-First-clause-work g c =
    let t = c.args.tables in
    let flash = g.D.Device.flash in
    let s = at (flash c.args.device.now) (view_of t) in
    rw c.new.ensures (blank_written t.sizes.pages t.sizes.random c.args.sector.0 c.args.bytes.now s (flash c.write_first.new.device) (view_of t) (view_of c.stamp.result) 0 0 c.stamp.ensures.tables (sym (ap is_first c.in-First.is) ∙ c.requires.found) (rw (c.split.ensures.block, c.split.ensures.offset) at c.write_first.ensures))

pub returns-in-Overwrite-clause-work : goal.returns-in-Overwrite-clause-work
returns-in-Overwrite-clause-work g c =
    let t = c.args.tables in
    let flash = g.D.Device.flash in
    let s = at (flash c.args.device.now) (view_of t) in
    let u = c.overwrite-tables.result.tables in
    used_written t.sizes.pages t.sizes.random c.args.sector.0 c.args.bytes.now s (flash c.overwrite-tables.new.device) (view_of u) (view_of c.stamp-in-Overwrite.result) _ _ c.stamp-in-Overwrite.ensures.tables (sym (ap is_first c.in-Overwrite.is) ∙ c.requires.found) (rw (c.split.ensures.block, c.split.ensures.offset) at c.overwrite-tables.ensures.work.does)
