use Rattle.std.proofs.Common.{◌≡◌, true, false, eqb, vec_items, deque_items, rules}
use Rattle.fast.proofs.Standing.{stands_free, stands_log, stands_sequential, stands_other, stands_nowhere}
use Rattle.fast.proofs.tables.Tables.role.Goals as goal

pub returns-then-contains : goal.returns-then-contains
returns-then-contains c =
    let t = c.args.self.now in
    stands_free (vec_items t.map) (deque_items t.rw.blocks) (deque_items t.rw.entries) (deque_items t.free.blocks) t.next c.args.block.0 t.sw (c.if-contains.ensures).value

pub returns-then-contains-2 : goal.returns-then-contains-2
returns-then-contains-2 c =
    let t = c.args.self.now in
    stands_log (vec_items t.map) (deque_items t.rw.blocks) (deque_items t.rw.entries) (deque_items t.free.blocks) t.next c.args.block.0 (c.if-contains.ensures).value t.sw (c.if-contains-2.ensures).value

pub returns-in-Some : goal.returns-in-Some
returns-in-Some c =
    let t = c.args.self.now in
    let same : true ≡ eqb c.in-Some.sw.block.0 c.args.block.0 = search rules in
    stands_sequential (vec_items t.map) (deque_items t.rw.blocks) (deque_items t.rw.entries) (deque_items t.free.blocks) t.next c.args.block.0 (c.if-contains.ensures).value (c.if-contains-2.ensures).value t.sw c.in-Some.sw c.in-Some.is same

pub returns-in_default : goal.returns-in_default
returns-in_default c =
    let t = c.args.self.now in
    let other : false ≡ eqb c.in-Some.sw.block.0 c.args.block.0 = search rules in
    stands_other (vec_items t.map) (deque_items t.rw.blocks) (deque_items t.rw.entries) (deque_items t.free.blocks) t.next c.args.block.0 (c.if-contains.ensures).value (c.if-contains-2.ensures).value t.sw c.in-Some.sw c.in-Some.is other

pub returns-in_default-2 : goal.returns-in_default-2
returns-in_default-2 c =
    let t = c.args.self.now in
    stands_nowhere (vec_items t.map) (deque_items t.rw.blocks) (deque_items t.rw.entries) (deque_items t.free.blocks) t.next c.args.block.0 (c.if-contains.ensures).value (c.if-contains-2.ensures).value t.sw c.in_default.is
