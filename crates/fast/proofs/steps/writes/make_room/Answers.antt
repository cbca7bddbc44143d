use Rattle.std.proofs.Common.{◌*◌, ◌<◌, ◌≤◌, length, deque_items, sym, refl, ap, ◌∙◌, arith}
use Rattle.fast.specs.Leaves.{at}
use Rattle.fast.specs.Meaning.{view_of}
use Rattle.fast.specs.Views.{numbers, entries_view}
use Rattle.fast.proofs.Counts.{some_free}
use Rattle.fast.proofs.Entries.{length_views}
use Rattle.fast.proofs.Rooms.{length_numbers, room_already, room_made}
use Rattle.fast.proofs.steps.writes.make_room.Goals as goal

pub returns-then-len-tables-clause-work : goal.returns-then-len-tables-clause-work
returns-then-len-tables-clause-work g c =
    let t = c.args.tables in
    let lens = ap (λ n. t.sizes.pages * n) (length_numbers (deque_items t.rw.blocks) ∙ sym t.rw.blocks.ok.0) in
    let took = ap (λ n. t.sizes.pages * n) c.len-2.ensures in
    let h : length (entries_view (deque_items t.rw.entries)) < t.sizes.pages * length (numbers (deque_items t.rw.blocks)) = omega (arith, lens, took, length_views (deque_items t.rw.entries), t.rw.entries.ok.0, c.len.ensures, c.if-len-tables.true) in
    rw c.new.ensures (record { does = room_already t.sizes.pages t.sizes.random (g.D.Device.flash c.args.device.now) (view_of t) h; sized = (refl, refl) })

pub returns-clause-work : goal.returns-clause-work
returns-clause-work g c =
    let t = c.args.tables in
    let v = c.thin-tables.result.tables in
    let flash = g.D.Device.flash in
    let d = c.thin-tables.ensures in
    let r = c.take_log.ensures in
    let lens = ap (λ n. t.sizes.pages * n) (length_numbers (deque_items t.rw.blocks) ∙ sym t.rw.blocks.ok.0) in
    let took = ap (λ n. t.sizes.pages * n) c.len-2.ensures in
    let h : t.sizes.pages * length (numbers (deque_items t.rw.blocks)) ≤ length (entries_view (deque_items t.rw.entries)) = omega (arith, lens, took, length_views (deque_items t.rw.entries), t.rw.entries.ok.0, c.len.ensures, c.if-len-tables.false) in
    let some : 0 < length (numbers (deque_items v.free.blocks)) = omega (arith, length_numbers (deque_items v.free.blocks), some_free v) in
    record { does = room_made t.sizes.pages t.sizes.random (at (flash c.args.device.now) (view_of t)) (flash c.thin-tables.new.device) (view_of v) (view_of c.take_log.result) _ _ h d.work.does some r.tables; sized = (r.sized.0 ∙ d.work.sized.0, r.sized.1 ∙ d.work.sized.1) }
