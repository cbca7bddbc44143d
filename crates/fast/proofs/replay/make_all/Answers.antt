use Rattle.std.proofs.Common.{vec_items, subst, arith}
use Rattle.fast.specs.Makes.{MakesAll}
use Rattle.fast.specs.Replay.{calls_told, replies_told}
use Rattle.fast.proofs.Played.{plays_out}
use Rattle.fast.proofs.replay.make_all.Goals as goal

pub returns : goal.returns
returns g c =
    subst (λ cs. MakesAll g.S.Sectors.makes c.args.sectors.now (calls_told cs) (replies_told (vec_items c.loop-next.replies)) c.loop-next.sectors)
    c.into_iter-next-iterator.ensures.into_iter_gives.0
    (plays_out g.S.Sectors.makes c.args.sectors.now _ _ _ _ (omega (arith, c.in-None.ensures.steps.0, c.loop-next.invariant.4)) c.loop-next.invariant.2)
