use Rattle.std.proofs.Common.{◌*◌, vec_items, deque_items, deque_len, ap, arith}
use Rattle.fast.specs.Rules.{live_entries}
use Rattle.fast.specs.Views.{entries_view}
use Rattle.fast.proofs.Counts.{moved, logged_led, some_free}
use Rattle.fast.proofs.tables.Tables.take_log.Goals as goal

pub take-block-requires : goal.take-block-requires
take-block-requires c = omega (arith, c.args.self.free.blocks.ok.0, some_free c.args.self)

pub invariant_of-result-clause-one_role : goal.invariant_of-result-clause-one_role
invariant_of-result-clause-one_role c =
    let t = c.args.self in
    λ b. omega (arith, t.one_role b, moved b (deque_items t.free.blocks) (deque_items t.rw.blocks) _ _ c.take-block.result (some_free t) c.take-block.ensures.block c.take-block.ensures.items c.add.ensures.blocks)

pub invariant_of-result-clause-one_live : goal.invariant_of-result-clause-one_live
invariant_of-result-clause-one_live c =
    let t = c.args.self in
    λ n. omega (arith, ap (λ v. live_entries n (entries_view (deque_items v))) c.add.ensures.entries, t.one_live n)

pub invariant_of-result-clause-logs_full : goal.invariant_of-result-clause-logs_full
invariant_of-result-clause-logs_full c =
    let t = c.args.self in
    omega (arith, ap (λ n. t.sizes.pages * n) c.add.ensures.len, ap deque_len c.add.ensures.entries, c.requires.full)

pub returns-clause-roles : goal.returns-clause-roles
returns-clause-roles c =
    let t = c.args.self in
    logged_led t.sizes.blocks (vec_items t.map) (deque_items t.rw.entries) (deque_items c.add.new.self.entries) t.next t.next t.sw (deque_items t.rw.blocks) _ (deque_items t.free.blocks) _ c.take-block.result t.one_role
    (some_free t) c.take-block.ensures.block c.take-block.ensures.items c.add.ensures.blocks
