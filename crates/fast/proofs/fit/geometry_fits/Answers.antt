use Rattle.std.proofs.Common.{arith}
use Rattle.std.proofs.lemmas.Grind.{common_steps}
use Rattle.fast.proofs.fit.geometry_fits.Goals as goal

pub returns-else-contains-4 : goal.returns-else-contains-4
returns-else-contains-4 g c = grind (arith, common_steps)
