use Rattle.std.proofs.Common.{◌-◌, length, take, ap, ◌∙◌, arith}
use Rattle.std.proofs.lemmas.Bool.Decides.{nat_tests}
use Rattle.image.proofs.Words.{word_part}
use Rattle.image.proofs.source.RefSliceU8Source.number.Goals as goal

pub returns : goal.returns
returns c =
    let s = c.in_ok-word.ensures.cases in
    let l = c.in_ok-get.ensures.lookup in
    let bs = c.args.self.now.now in
    let k = c.args.at in
    let e = word_part bs c.in_ok-word.word.now k (length bs - k) 0 (s.same ∙ ap (take 4) l.0.2) (omega arith) (omega arith) in
    grind (arith, nat_tests, e)
