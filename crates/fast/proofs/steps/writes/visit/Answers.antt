use Rattle.std.proofs.Common.{◌<◌, length, deque_items, arith}
use Rattle.fast.specs.Views.{entries_view}
use Rattle.fast.specs.declared.tables.random.Entry.TheVariants.{Live}
use Rattle.fast.proofs.Visited.{view_at, live_known}
use Rattle.fast.proofs.steps.writes.visit.Goals as goal

pub settle-requires : goal.settle-requires
settle-requires g c =
    let t = c.args.tables in
    let h : c.args.i < length (deque_items t.rw.entries) = omega (arith, t.rw.entries.ok.0, c.requires.within) in
    record {
      known = rw c.split.ensures.block (live_known t.sizes.pages t.sizes.logical (entries_view (deque_items t.rw.entries)) c.args.i c.in-Live.sector.0 (omega (arith, t.sizes.pages_fit)) t.one_live (view_at (deque_items t.rw.entries) c.args.i c.index.result.now (Live c.in-Live.sector) h c.index.ensures c.in-Live.is));
    }
