use Rattle.std.proofs.Common.{eqb, deque_items, ap, arith}
use Rattle.flash.specs.declared.numbers.Block.{Block}
use Rattle.fast.specs.Rules.{live_entries, same, uses, uses_sw}
use Rattle.fast.specs.Views.{entries_view}
use Rattle.fast.proofs.Counts.{live_stale}
use Rattle.fast.proofs.tables.Tables.extend.Goals as goal

pub invariant_of-result-clause-one_role : goal.invariant_of-result-clause-one_role
invariant_of-result-clause-one_role c =
    let t = c.args.self in
    let logs = ap deque_items c.expire_sector.ensures.blocks in
    λ b. omega (arith, t.one_role b, ap (uses b) logs, ap (uses_sw b) c.requires.has, ap (λ (x : Block). same b x.0) c.extend.ensures.block)

pub invariant_of-result-clause-one_live : goal.invariant_of-result-clause-one_live
invariant_of-result-clause-one_live c =
    let t = c.args.self in
    let stale = c.expire_sector.ensures.entries in
    λ n. omega (arith, ap (live_entries n) stale, live_stale (λ m. eqb m c.args.taken.0) n (entries_view (deque_items t.rw.entries)), t.one_live n)
