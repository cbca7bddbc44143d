use Rattle.std.proofs.Common.{deque_items, ap, ◌∙◌}
use Rattle.scheme.specs.Tables.{stale_all}
use Rattle.fast.specs.Views.{entries_view}
use Rattle.fast.proofs.Entries.{run_block}
use Rattle.fast.proofs.tables.random.RwList.expire_block.Goals as goal

pub returns-clause-entries : goal.returns-clause-entries
returns-clause-entries c =
    let d = c.expire.ensures in
    d.entries ∙ ap (λ q. stale_all q (entries_view (deque_items c.args.self.now.entries))) (run_block c.args.c.0 c.args.pages c.requires.some)
