use Rattle.std.proofs.Common.{◌≡◌, ◌<◌, ◌∷◌, length, refl, arith, rules}
use Rattle.std.proofs.lemmas.Bool.Decides.{nat_tests}
use Rattle.console.specs.Lines.{lines}
use Rattle.console.proofs.Progress.{next_line}
use Rattle.console.proofs.input.LinesIterator.next.Goals as goal

pub returns : goal.returns
returns c =
    let some : 0 < length c.args.self.now.0.now = grind (arith, nat_tests) in
    let e : lines c.args.self.now.0.now ≡ c.unwrap_or.result.0.now ∷ lines c.unwrap_or.result.1.now =
    next_line c.args.self.now.0.now c.split_once.result _ c.unwrap_or.result some c.split_once.ensures c.unwrap_or.ensures refl refl in
    record { steps = e; goes = search rules }
