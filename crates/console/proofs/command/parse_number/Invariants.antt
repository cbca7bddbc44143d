use Rattle.std.proofs.Common.{◌≡◌, ◌+◌, ◌^◌, ◌<◌, take, drop}
use Rattle.std.specs.List.{prefix_len}
use Rattle.console.specs.Commands.{digit, value}
use Rattle.console.proofs.command.parse_number.Given as goal

abbrev pub invariant-loop-digit : goal.invariant-loop-digit
invariant-loop-digit l =
    (l.value ≡ value (take l.digit-index l.digits))
    × (prefix_len digit l.digits ≡ l.digit-index + prefix_len digit (drop l.digit-index l.digits))
    × (l.value < 2 ^ 32)
