use Rattle.std.proofs.Common.{sym, ap, ◌∙◌, arith}
use Rattle.std.proofs.lemmas.Bool.Decides.{nat_tests}
use Rattle.std.proofs.lemmas.List.{take_rest}
use Rattle.console.specs.Commands.{said, said_write, number_of, read_of}
use Rattle.console.specs.Told.{command_told}
use Rattle.console.proofs.Lines.{said_r, said_w, spelling}
use Rattle.console.proofs.command.Command.parse.Goals as goal

pub returns-in_err-parse_number-in-114 : goal.returns-in_err-parse_number-in-114
returns-in_err-parse_number-in-114 c =
    let e = ap command_told c.from_residual.ensures
    ∙ ap read_of (c.in_err-parse_number-in-114.ensures ∙ ap number_of (take_rest c.args.line.now 2))
    ∙ sym (said_r c.args.line.now (omega arith) (omega arith) (omega arith)) in
    record { command = e; law = spelling _ _ e }

pub returns-in_ok-parse_number-in-114 : goal.returns-in_ok-parse_number-in-114
returns-in_ok-parse_number-in-114 c =
    let e = ap read_of (c.in_ok-parse_number-in-114.ensures ∙ ap number_of (take_rest c.args.line.now 2))
    ∙ sym (said_r c.args.line.now (omega arith) (omega arith) (omega arith)) in
    record { command = e; law = spelling _ _ e }

pub returns-in-119 : goal.returns-in-119
returns-in-119 c =
    let e = c.parse_write.ensures ∙ ap said_write (take_rest c.args.line.now 2) ∙ sym (said_w c.args.line.now (omega arith) (omega arith) (omega arith)) in
    record { command = e; law = spelling _ _ e }

pub returns-in_default-clause-command : goal.returns-in_default-clause-command
unfolding said
returns-in_default-clause-command c = grind (arith, nat_tests)
