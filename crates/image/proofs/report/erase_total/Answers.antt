use Rattle.std.proofs.Common.{◌≡◌, length, take, drop, ◌+◌, ◌*◌, ◌-◌, ◌/◌, arith, rules, length-take}
use Rattle.std.specs.Simd.{first_chunks}
use Rattle.image.proofs.report.erase_total.Goals as goal
use Rattle.image.proofs.Totals.{total_more, chunk_word}

pub loop-count-preserved : goal.loop-count-preserved
loop-count-preserved c =
    let bs = c.args.bytes.now in
    let m = 20 + 4 * c.args.blocks - 20 in
    let n = length (take m (drop 20 bs)) / 4 in
    let i = c.loop-count.count-index in
    let few = length-take m (drop 20 bs) in
    let front : c.as_chunks.result.0.now ≡ first_chunks 4 n (take m (drop 20 bs)) = search rules in
    let one = chunk_word bs 20 m n i c.as_chunks.result.0.now front (omega arith) (omega arith) (omega arith) in
    record { total = omega (arith, total_more bs 20 i, one); small = omega arith }
