use Rattle.std.proofs.Common.{ap, ◌∙◌}
use Rattle.flash.specs.Calls.{erased}
use Rattle.scheme.specs.Roles.{finished}
use Rattle.fast.specs.Leaves.{fresh_view}
use Rattle.fast.specs.Meaning.{view_of}
use Rattle.fast.proofs.Carried.{merged_one}
use Rattle.fast.proofs.steps.merges.merge_sw.Goals as goal

pub returns-clause-work : goal.returns-clause-work
returns-clause-work g c =
    let t = c.args.tables in
    let k = c.args.sw in
    let flash = g.D.Device.flash in
    record {
      does =
          merged_one t.sizes.pages (fresh_view c.args.fresh) k.owner.0 k.block.0 finished k.fill c.carry_from-copies.result (flash c.args.device.now) (flash c.carry_from-copies.new.device) (flash c.erase.new.self) (view_of t) (view_of c.adopt-tables.result.0) (view_of t).free ((view_of t).data_block k.owner.0)
          c.carry_from-copies.ensures.work c.adopt-tables.ensures.tables (c.erase.ensures.after ∙ ap (erased (flash c.carry_from-copies.new.device)) c.adopt-tables.ensures.old);
      sized = c.adopt-tables.ensures.sized;
    }
