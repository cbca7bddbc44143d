use Rattle.std.proofs.Common.{◌<◌, [], ◌∷◌, ◌++◌, length, get_or, drop, deque_items, ap, ◌∙◌, arith}
use Rattle.flash.specs.Calls.{erased}
use Rattle.scheme.specs.Tables.{with_random, with_free}
use Rattle.fast.specs.Leaves.{at}
use Rattle.fast.specs.Meaning.{view_of}
use Rattle.fast.specs.Views.{numbers}
use Rattle.fast.proofs.Measures.{pages_of}
use Rattle.fast.proofs.Rooms.{length_numbers, reclaimed}
use Rattle.fast.proofs.steps.writes.reclaim.Goals as goal

pub returns-clause-work : goal.returns-clause-work
returns-clause-work g c =
    let t = c.args.tables in
    let flash = g.D.Device.flash in
    let v = c.visit_all-tables.result.tables in
    let d = c.visit_all-tables.ensures in
    let r = c.retire-tables.ensures in
    let some : 0 < length (numbers (deque_items v.rw.blocks)) = omega (arith, length_numbers (deque_items v.rw.blocks), v.rw.blocks.ok.0, d.logged.0, c.requires.some) in
    record {
      does =
          reclaimed t.sizes.pages (at (flash c.args.device.now) (view_of t)) (flash c.visit_all-tables.new.device) (flash c.erase.new.self) (view_of v) (view_of c.retire-tables.result.0) _ _ d.work.does some
          (r.tables ∙ ap (λ p. with_random (drop 1 (view_of v).logs) (drop p (view_of v).entries) (with_free ((view_of v).free ++ (get_or (view_of v).logs 0 0 ∷ [])) (view_of v))) (ap pages_of d.work.sized.0)) (c.erase.ensures.after ∙ ap (erased (flash c.visit_all-tables.new.device)) r.block);
      sized = (r.sized.0 ∙ d.work.sized.0, r.sized.1 ∙ d.work.sized.1);
    }
