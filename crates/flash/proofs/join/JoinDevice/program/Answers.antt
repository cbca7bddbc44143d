use Rattle.std.proofs.Common.{rules}
use Rattle.flash.proofs.Joins.{programmed_first, programmed_second}
use Rattle.flash.proofs.join.JoinDevice.program.Goals as goal

pub returns-in-InFirst-clause-after : goal.returns-in-InFirst-clause-after
returns-in-InFirst-clause-after g c = search (rules, programmed_first)

pub returns-in-InSecond-clause-after : goal.returns-in-InSecond-clause-after
returns-in-InSecond-clause-after g c = search (rules, programmed_second)
