use Rattle.std.proofs.Common.{◌*◌, ◌/◌, ◌<◌, deque_items, deque_len, arith}
use Rattle.fast.proofs.Counts.{get_or_numbers}
use Rattle.fast.proofs.Measures.{in_block}
use Rattle.fast.proofs.tables.random.RwList.page_of.Goals as goal

pub returns-clause-block : goal.returns-clause-block
returns-clause-block c =
    let r = c.args.self.now in
    let n = c.args.entry in
    let P = c.args.pages in
    let k : n < deque_len r.blocks * P = omega (arith, c.requires.within) in
    let d : n / P < deque_len r.blocks = in_block n (deque_len r.blocks) P c.requires.some k in
    get_or_numbers (deque_items r.blocks) (n / P) c.index.result.now (omega (arith, r.blocks.ok.0, d)) c.index.ensures
