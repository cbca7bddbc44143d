use Rattle.scheme.proofs.Bench.{twelve_answers}
use Rattle.scheme.proofs.twelve_answers.Goals as goal

pub returns : goal.returns
returns c = twelve_answers
