-- What a recording device has written down.
use Rattle.std.specs.Prelude.{ℕ, cond, List, [], ◌∷◌, ◌++◌, length, codes, decimal, nat_lt}
use Rattle.trace.specs.declared.operation.Operation.{Operation}
use Rattle.trace.specs.declared.operation.Operation.TheVariants.{Program, Erase}

-- One operation more, while there are fewer than 80.
abbrev pub noted : List Operation → Operation → List Operation
noted operations x = cond (nat_lt (length operations) 80) (operations ++ (x ∷ [])) operations

-- The line that is printed for an operation.
abbrev pub operation_line : Operation → List ℕ
operation_line (Program block page mark) =
    codes "program " ++ (decimal block.0 ++ (codes " " ++ (decimal page.0
    ++ (codes " sector " ++ (decimal mark.sector.0 ++ (codes " stamp " ++ decimal mark.stamp))))))
operation_line (Erase block) = codes "erase " ++ decimal block.0
