use Rattle.std.proofs.Common.{◌/◌, ◌<◌, eqb, [], ◌∷◌, ◌++◌, length, vec_items, deque_items, ap, ◌∙◌, arith}
use Rattle.fast.specs.Rules.{live_entries}
use Rattle.fast.specs.Views.{entries_view}
use Rattle.fast.proofs.Counts.{get_or_numbers, renewed_roles, renewed_led, renewed_view, live_stale, some_free}
use Rattle.fast.proofs.tables.Tables.renew.Goals as goal

pub take-new-requires : goal.take-new-requires
take-new-requires c = omega (arith, c.args.self.free.blocks.ok.0, some_free c.args.self)

pub invariant_of-result-clause-one_role : goal.invariant_of-result-clause-one_role
invariant_of-result-clause-one_role c =
    let t = c.args.self in
    let old = c.index-old.result.now in
    let h : c.args.c.0 < length (vec_items t.map) = omega (arith, t.map.ok.0, t.mapped, c.requires.known) in
    let free = c.put.ensures.items ∙ ap (λ xs. xs ++ (old ∷ [])) c.take-new.ensures.items in
    let logs = ap deque_items c.expire_block.ensures.blocks in
    renewed_roles (vec_items t.map) (deque_items t.rw.blocks) (deque_items t.free.blocks) _ _ c.args.c.0 c.take-new.result old h (some_free t) c.take-new.ensures.block (get_or_numbers (vec_items t.map) c.args.c.0 old h c.index-old.ensures) logs free t.sizes.blocks t.sw t.one_role

pub invariant_of-result-clause-one_live : goal.invariant_of-result-clause-one_live
invariant_of-result-clause-one_live c =
    let t = c.args.self in
    λ n. omega (arith, ap (live_entries n) c.expire_block.ensures.entries, live_stale (λ n. eqb (n / t.sizes.pages) c.args.c.0) n (entries_view (deque_items t.rw.entries)), t.one_live n)

pub returns-clause-tables : goal.returns-clause-tables
returns-clause-tables c =
    let t = c.args.self in
    let old = c.index-old.result.now in
    let h : c.args.c.0 < length (vec_items t.map) = omega (arith, t.map.ok.0, t.mapped, c.requires.known) in
    let free = c.put.ensures.items ∙ ap (λ xs. xs ++ (old ∷ [])) c.take-new.ensures.items in
    let logs = ap deque_items c.expire_block.ensures.blocks in
    let is_old = get_or_numbers (vec_items t.map) c.args.c.0 old h c.index-old.ensures in
    renewed_view (vec_items t.map) (deque_items t.rw.blocks) (deque_items t.free.blocks) _ _ c.args.c.0 c.take-new.result old h (some_free t) c.take-new.ensures.block is_old logs free t.sizes.pages t.sw (deque_items t.rw.entries) _ t.next c.requires.unowned c.expire_block.ensures.entries

pub returns-clause-roles : goal.returns-clause-roles
returns-clause-roles c =
    let t = c.args.self in
    let old = c.index-old.result.now in
    let h : c.args.c.0 < length (vec_items t.map) = omega (arith, t.map.ok.0, t.mapped, c.requires.known) in
    let free = c.put.ensures.items ∙ ap (λ xs. xs ++ (old ∷ [])) c.take-new.ensures.items in
    let logs = ap deque_items c.expire_block.ensures.blocks in
    let is_old = get_or_numbers (vec_items t.map) c.args.c.0 old h c.index-old.ensures in
    renewed_led (vec_items t.map) (deque_items t.rw.blocks) (deque_items t.free.blocks) _ _ c.args.c.0 c.take-new.result old h (some_free t) c.take-new.ensures.block is_old logs free t.sizes.blocks t.sw t.one_role (deque_items t.rw.entries) (deque_items c.expire_block.new.self.entries) t.next t.next
