use Rattle.std.proofs.Common.{[], ◌∷◌, get_or, Some, vec_items, deque_items, sym, subst, arith}
use Rattle.scheme.specs.Roles.{Led, taken_as_sequential}
use Rattle.scheme.specs.Steps.{turn}
use Rattle.fast.specs.Rules.{OneRole}
use Rattle.fast.specs.Views.{numbers, view}
use Rattle.fast.specs.declared.tables.sequential.Sw.{Sw}
use Rattle.fast.proofs.Counts.{opened_led, some_free}
use Rattle.fast.proofs.tables.Tables.open.Goals as goal

pub take-block-requires : goal.take-block-requires
take-block-requires c = omega (arith, c.args.self.free.blocks.ok.0, some_free c.args.self)

pub returns-clause-roles : goal.returns-clause-roles
returns-clause-roles c =
    let t = c.args.self in
    let k : Sw = record { owner = c.args.owner; block = c.take-block.result; fill = 1 } in
    let map = vec_items t.map in
    let logs = deque_items t.rw.blocks in
    let es = deque_items t.rw.entries in
    let free = deque_items t.free.blocks in
    let new = deque_items c.take-block.new.self.blocks in
    let B = t.sizes.blocks in
    subst (λ q. Led B (view map q logs es free t.next) (turn taken_as_sequential (get_or (numbers free) 0 0) ∷ []) (view map (Some k) logs es new t.next)) (sym c.requires.none)
    (opened_led B map es es t.next t.next logs free new k (some_free t) c.take-block.ensures.block c.take-block.ensures.items
    (subst (λ q. OneRole B map q logs free) c.requires.none t.one_role))
