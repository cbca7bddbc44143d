use Rattle.std.proofs.Common.{vec_items, arith}
use Rattle.fast.specs.Replay.{calls_told, replies_told}
use Rattle.store.proofs.Plays.{outcome}
use Rattle.store.proofs.play.play.Goals as goal

pub returns : goal.returns
returns g c =
    let o = outcome (λ a. a.store.ghost_name) (λ a. a.store.now) g.S.Store.makes g.S.Store.table g.S.Store.valid (λ v. replies_told (vec_items v)) _ c.play.new.sectors (calls_told (vec_items c.args.calls)) c.play.result c.play.ensures.made c.play.ensures.untouched in
    record {
      law = o.law;
      made = grind (arith, o.same, o.made);
      stays = grind (arith, o.same, o.stays);
      untouched = grind (arith, o.same, o.untouched);
    }
