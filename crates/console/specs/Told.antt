-- What the code's answers say, in the terms of the other definitions: each case with its values.
use Rattle.std.specs.Prelude.{ℕ, Some, None, Option}
use Rattle.fast.specs.Told.{refusal_number}
use Rattle.console.specs.Commands.{Said, says_write, says_read}
use Rattle.console.specs.declared.command.Command.{Command}
use Rattle.console.specs.declared.command.Command.TheVariants.{Write, Read}
use Rattle.console.specs.declared.runner.Refused.{Refused}
use Rattle.console.specs.declared.runner.Refused.TheVariants.{NotUnderstood, Call}

abbrev pub command_told : Option Command → Option Said
command_told None = None
command_told (Some (Write n text)) = Some (says_write n.0 text.now)
command_told (Some (Read n)) = Some (says_read n.0)

-- The number that is printed of a line that is refused.
abbrev pub refused_number : Refused → ℕ
refused_number NotUnderstood = 15
refused_number (Call e) = refusal_number e
