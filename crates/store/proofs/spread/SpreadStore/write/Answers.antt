use Rattle.std.proofs.Common.{Ok, subst}
use Rattle.store.specs.Meaning.{Written}
use Rattle.store.specs.Sides.{Lies}
use Rattle.store.specs.Spread.{spread_size}
use Rattle.store.specs.Told.{refusal_told}
use Rattle.store.proofs.Spreads.{left_written, right_written}
use Rattle.store.proofs.spread.SpreadStore.write.Goals as goal

pub returns-in-OnLeft-clause-after : goal.returns-in-OnLeft-clause-after
returns-in-OnLeft-clause-after g c ok =
    let l = g.Left.Store.table c.args.self.now.left in
    let r = g.Right.Store.table c.args.self.now.right in
    let lies = subst (λ x. Lies (spread_size l r) c.args.sector.0 (Ok x)) c.in-OnLeft.is c.in_ok-there.ensures in
    left_written l r c.args.sector.0 c.args.bytes.now _ lies.0 _ lies.1
    (subst (λ n. Written l (g.Left.Store.table c.write.new.self) n c.args.bytes.now (refusal_told c.write.result)) lies.2 (c.write.ensures.after ok.0))

pub returns-in-OnRight-clause-after : goal.returns-in-OnRight-clause-after
returns-in-OnRight-clause-after g c ok =
    let l = g.Left.Store.table c.args.self.now.left in
    let r = g.Right.Store.table c.args.self.now.right in
    let lies = subst (λ x. Lies (spread_size l r) c.args.sector.0 (Ok x)) c.in-OnRight.is c.in_ok-there.ensures in
    right_written l r c.args.sector.0 c.args.bytes.now _ lies.0 _ lies.1
    (subst (λ n. Written r (g.Right.Store.table c.write-in-OnRight.new.self) n c.args.bytes.now (refusal_told c.write-in-OnRight.result)) lies.2 (c.write-in-OnRight.ensures.after ok.1))
