use Rattle.std.proofs.Common.{◌*◌, ◌≤◌, None, vec_items, deque_items, refl, ap, ◌∙◌, arith}
use Rattle.fast.specs.Rules.{live_entries, uses}
use Rattle.fast.specs.Views.{numbers, entries_view}
use Rattle.fast.proofs.Rising.{all_once, map_rising}
use Rattle.fast.proofs.start.start_tables.Goals as goal

pub invariant_of-result : goal.invariant_of-result
invariant_of-result c =
    let z = c.args.sizes in
    let map = c.in_ok-blocks_from.ensures in
    let made = c.from-map.ensures in
    let free = c.in_ok-free.ensures in
    let logs = c.in_ok-logs.ensures in
    let entries = c.in_ok-entries.ensures in
    let none = ap (λ n. z.pages * n) logs.len in
    let fits : z.logical ≤ z.blocks = omega (arith, z.blocks_fit) in
    record {
      one_role = (λ b. omega (arith, all_once z.blocks z.logical (vec_items c.from-map.result) (deque_items c.in_ok-free.free) fits (ap numbers made.0 ∙ map.0) free.0 b, ap (uses b) logs.items));
      one_live = (λ n. omega (arith, ap (λ es. live_entries n (entries_view es)) entries.items));
      owned = omega (arith, z.logical_fits);
      filled = (omega arith, omega arith);
      mapped = omega (arith, made.1, map.1);
      all_blocks = omega (arith, free.1, logs.len, fits);
      few_logs = omega (arith, logs.len);
      entries_fit = omega (arith, entries.len);
      logs_full = omega (arith, none);
      room_logs = logs.capacity;
      room_entries = entries.capacity;
      room_free = free.2;
    }

pub returns : goal.returns
returns c =
    let z = c.args.sizes in
    let map = c.in_ok-blocks_from.ensures in
    let made = c.from-map.ensures in
    let free = c.in_ok-free.ensures in
    let logs = c.in_ok-logs.ensures in
    let entries = c.in_ok-entries.ensures in
    let d = map_rising z.logical (vec_items c.from-map.result) (ap numbers made.0 ∙ map.0) in
    let l = ap numbers logs.items in
    let e = ap entries_view entries.items in
    let f = free.0 in (
      λ j. record { data_block = d j; sequential = None; logs = l j; entries = e j; free = f j; next = c.args.first },
      refl,
    )
