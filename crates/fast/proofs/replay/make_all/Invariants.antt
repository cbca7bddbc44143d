use Rattle.std.proofs.Common.{◌≡◌, length, vec_items, vec_capacity}
use Rattle.std.specs.Vec.Iter.{into_iter_items, into_iter_len}
use Rattle.fast.proofs.Played.{Playing}
use Rattle.fast.proofs.replay.make_all.Given as goal

abbrev pub invariant-loop-next : goal.invariant-loop-next
invariant-loop-next g l =
    (goal.iterator-loop-next g).can_next l.next-iterator
    × (goal.iterator-loop-next g).is_finite l.next-iterator
    × Playing g.S.Sectors.makes l.initial.sectors (into_iter_items l.initial.next-iterator) l.sectors (into_iter_items l.next-iterator) (vec_items l.replies)
    × (vec_capacity l.replies ≡ vec_capacity l.initial.replies)
    × (into_iter_len l.next-iterator ≡ length (into_iter_items l.next-iterator))
