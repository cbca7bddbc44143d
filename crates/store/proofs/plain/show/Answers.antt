use Rattle.std.proofs.Common.{◌≡◌, ◌+◌, ◌-◌, length, get_or, refl, arith}
use Rattle.std.proofs.lemmas.Bool.Decides.{nat_tests}
use Rattle.store.proofs.Slots.{blank_slot, written_slot}
use Rattle.store.proofs.plain.show.Goals as goal

pub returns-then-not-is_written : goal.returns-then-not-is_written
returns-then-not-is_written c =
    let whole : length c.args.buffer.now ≡ 512 = omega arith in
    let never : get_or c.args.bytes.now c.args.at 0 ≡ 0 = grind (arith, nat_tests) in
    let blank = blank_slot c.args.bytes.now c.args.at never in
    let filled = c.fill.ensures.after (λ y e. e) in
    rw (blank, filled, whole) refl

pub returns : goal.returns
returns c =
    let n : c.args.at + 513 - (c.args.at + 1) ≡ 512 = omega arith in
    let written : get_or c.args.bytes.now c.args.at 0 ≡ 0 → ⊥ = grind (arith, nat_tests) in
    let slot = written_slot c.args.bytes.now c.args.at written in
    let copied = c.copy_from_slice.ensures.after in
    rw (slot, copied, n) refl
