use Rattle.std.proofs.Common.{◌≡◌, ◌≤◌, false, length, get_or, sym, ◌∙◌, arith}
use Rattle.std.proofs.lemmas.Bool.Decides.{nat_tests}
use Rattle.console.specs.Commands.{digit, number_of}
use Rattle.console.proofs.Numerals.{no_digit, too_large, all_read}
use Rattle.console.proofs.command.parse_number.Goals as goal

pub returns-then-is_empty : goal.returns-then-is_empty
unfolding number_of
returns-then-is_empty c = grind (arith, nat_tests)

pub returns-then-not-is_ascii_digit : goal.returns-then-not-is_ascii_digit
returns-then-not-is_ascii_digit c =
    let other : digit (get_or c.args.digits.now c.loop-digit.digit-index 0) ≡ false = grind (arith, nat_tests) in
    sym (no_digit _ c.loop-digit.digit-index (omega arith) c.loop-digit.invariant.1 other)

pub returns-in_err-checked_mul : goal.returns-in_err-checked_mul
returns-in_err-checked_mul c =
    c.from_residual.ensures ∙ sym (too_large _ c.loop-digit.digit-index _ (omega arith) c.loop-digit.invariant.0 (omega arith))

pub returns-in_err-value : goal.returns-in_err-value
returns-in_err-value c =
    c.from_residual-in_err-value.ensures ∙ sym (too_large _ c.loop-digit.digit-index _ (omega arith) c.loop-digit.invariant.0 (omega arith))

pub returns : goal.returns
returns c =
    let some : 1 ≤ length c.args.digits.now = grind (arith, nat_tests) in
    all_read _ c.loop-digit.digit-index _ (omega arith) c.loop-digit.invariant.0 c.loop-digit.invariant.1 c.loop-digit.invariant.2 some (omega arith)
