use Rattle.std.proofs.Common.{arith, rules}
use Rattle.flash.proofs.Chips.{fits}
use Rattle.flash.proofs.chip.ImageChip.geometry_with.Goals as goal

pub returns : goal.returns
returns c = (search rules, fits _ _ _ (search rules) c.args.self.now.image, omega arith)
