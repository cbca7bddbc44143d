use Rattle.std.proofs.Common.{◌≡◌, ◌-◌, ◌≤◌, deque_items, deque_len, deque_capacity}
use Rattle.scheme.specs.Steps.{rising}
use Rattle.fast.specs.Views.{numbers}
use Rattle.fast.proofs.start.blocks_from.Given as goal

abbrev pub invariant-loop-b : goal.invariant-loop-b
invariant-loop-b l = (numbers (deque_items l.blocks) ≡ rising l.first (l.b - l.first)) × (deque_len l.blocks ≡ l.b - l.first) × (l.room ≤ deque_capacity l.blocks)
