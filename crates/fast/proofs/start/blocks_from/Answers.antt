use Rattle.std.proofs.Common.{deque_items, refl, arith}
use Rattle.fast.proofs.Rising.{rising_more}
use Rattle.fast.proofs.start.blocks_from.Goals as goal

pub loop-b-preserved : goal.loop-b-preserved
loop-b-preserved c = (
  rising_more (deque_items c.loop-b.blocks) _ (record { 0 = c.loop-b.b }) c.args.first c.loop-b.b c.loop-b.auto.b c.loop-b.invariant.0 refl c.push_back_reserved.ensures.items,
  omega (arith, c.push_back_reserved.ensures.len, c.loop-b.invariant.1, c.loop-b.auto.b),
  omega (arith, c.push_back_reserved.ensures.capacity, c.loop-b.invariant.2),
)
