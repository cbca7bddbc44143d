use Rattle.std.proofs.Common.{◌*◌, ◌<◌, length, vec_items, deque_items, ap, ◌∙◌, arith, length-drop}
use Rattle.fast.specs.Meaning.{view_of}
use Rattle.fast.specs.Rules.{live_entries}
use Rattle.fast.specs.Views.{numbers, entries_view}
use Rattle.fast.proofs.Counts.{live_drop, moved, numbers_moved, numbers_rest, retired_led}
use Rattle.fast.proofs.Entries.{views_drop}
use Rattle.fast.proofs.tables.Tables.retire.Goals as goal

pub invariant_of-result-clause-one_role : goal.invariant_of-result-clause-one_role
invariant_of-result-clause-one_role c =
    let t = c.args.self in
    let some : 0 < length (deque_items t.rw.blocks) = omega (arith, t.rw.blocks.ok.0, c.requires.some) in
    λ b. omega (arith, t.one_role b, moved b (deque_items t.rw.blocks) (deque_items t.free.blocks) _ _ c.retire-block.result some c.retire-block.ensures.block c.retire-block.ensures.blocks c.put.ensures.items)

pub invariant_of-result-clause-one_live : goal.invariant_of-result-clause-one_live
invariant_of-result-clause-one_live c =
    let t = c.args.self in
    let e = ap entries_view c.retire-block.ensures.entries ∙ views_drop t.sizes.pages (deque_items t.rw.entries) in
    λ n. omega (arith, ap (live_entries n) e, live_drop n t.sizes.pages (entries_view (deque_items t.rw.entries)), t.one_live n)

pub invariant_of-result-clause-entries_fit : goal.invariant_of-result-clause-entries_fit
invariant_of-result-clause-entries_fit c =
    let t = c.args.self in
    omega (arith, ap (λ n. t.sizes.pages * n) c.retire-block.ensures.blocks_len, ap length c.retire-block.ensures.entries, length-drop t.sizes.pages (deque_items t.rw.entries), t.rw.entries.ok.0, c.retire-block.new.self.entries.ok.0, t.entries_fit)

pub returns-clause-tables : goal.returns-clause-tables
returns-clause-tables c =
    let t = c.args.self in
    let l = ap numbers c.retire-block.ensures.blocks ∙ numbers_rest (deque_items t.rw.blocks) in
    let e = ap entries_view c.retire-block.ensures.entries ∙ views_drop t.sizes.pages (deque_items t.rw.entries) in
    let f = numbers_moved (deque_items t.free.blocks) _ c.retire-block.result _ c.retire-block.ensures.block c.put.ensures.items in
    λ j. record { data_block = (view_of t).data_block; sequential = (view_of t).sequential; logs = l j; entries = e j; free = f j; next = t.next }

pub returns-clause-roles : goal.returns-clause-roles
returns-clause-roles c =
    let t = c.args.self in
    retired_led t.sizes.blocks (vec_items t.map) (deque_items t.rw.entries) (deque_items c.retire-block.new.self.entries) t.next t.next t.sw (deque_items t.rw.blocks) _ (deque_items t.free.blocks) _ c.retire-block.result t.one_role
    (omega (arith, t.rw.blocks.ok.0, c.requires.some)) c.retire-block.ensures.block c.retire-block.ensures.blocks c.put.ensures.items
