use Rattle.std.proofs.Common.{deque_items, ap, ◌∙◌}
use Rattle.flash.specs.Calls.{erased}
use Rattle.fast.specs.Leaves.{fresh_view}
use Rattle.fast.specs.Meaning.{view_of}
use Rattle.fast.proofs.Carried.{merged_front_two}
use Rattle.fast.proofs.Counts.{some_free}
use Rattle.fast.proofs.steps.merges.merge_over.Goals as goal

pub returns-clause-work : goal.returns-clause-work
returns-clause-work g c =
    let t = c.args.tables in
    let k = c.args.sw in
    let flash = g.D.Device.flash in
    record {
      does =
          merged_front_two t.sizes.pages (fresh_view c.args.fresh) k.owner.0 (deque_items t.free.blocks) c.first_free-to.result (some_free t) c.first_free-to.ensures
          c.carry_from-copies.result (flash c.args.device.now) (flash c.carry_from-copies.new.device) (flash c.erase.new.self) (flash c.erase-2.new.self) (view_of t) (view_of c.replace-tables.result.0) ((view_of t).data_block k.owner.0) k.block.0
          c.carry_from-copies.ensures.work c.replace-tables.ensures.tables (c.erase.ensures.after ∙ ap (erased (flash c.carry_from-copies.new.device)) c.replace-tables.ensures.old) c.erase-2.ensures.after;
      sized = c.replace-tables.ensures.sized;
    }
