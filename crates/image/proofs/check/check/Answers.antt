use Rattle.std.proofs.Common.{rules}
use Rattle.image.proofs.Laws.{check_law}
use Rattle.image.proofs.check.check.Goals as goal

pub returns-clause-law : goal.returns-clause-law
returns-clause-law c = check_law _ _ (λ i. (c.type_inv.bytes i).fits) (search rules)
