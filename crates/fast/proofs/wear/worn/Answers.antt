use Rattle.std.proofs.Common.{ℕ, ◌+◌, Bool, ◌&&◌, ltb, ◌∙◌, arith, rules}
use Rattle.std.proofs.lemmas.Iterator.{YieldsList-from_range}
use Rattle.std.proofs.lemmas.Iterator.Search.{any_from_yields_List}
use borrow.Author.Tests.{tests}
use Rattle.fast.proofs.Worn.{any_below}
use Rattle.fast.proofs.wear.worn.Goals as goal

pub returns : goal.returns
returns g c =
    let f = g.D.Device.flash c.args.device.now in
    let test : ℕ → Bool = λ b. ltb b f.blocks && ltb f.life (f.count b + c.args.most) in
    any_from_yields_List test _ _ _ c.any.ensures.ran (YieldsList-from_range 0 f.blocks f.blocks (search rules) (omega arith)) (λ x b q k. search (rules, tests))
    ∙ any_below f.blocks (λ b. ltb f.life (f.count b + c.args.most)) f.blocks (omega arith)
