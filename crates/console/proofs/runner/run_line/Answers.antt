use Rattle.std.proofs.Common.{◌≡◌, Some, Option, subst}
use Rattle.console.specs.Commands.{Said, says_write, said}
use Rattle.console.specs.Told.{command_told}
use Rattle.console.proofs.runner.run_line.Goals as goal

pub returns-in-Some-Write-clause-adds : goal.returns-in-Some-Write-clause-adds
returns-in-Some-Write-clause-adds g c =
    let e : ◌≡◌ {A = Option Said} (Some (says_write c.in-Some-Write.sector.0 c.in-Some-Write.text.now)) (said c.args.text.now) =
    subst (λ q. command_told (Some q) ≡ said c.args.text.now) c.in-Some-Write.field-0-is c.in-Some-Write.ensures.command in
    rw (← e) c.run_write.ensures.adds
