-- The lines of an input, and what is printed for one.
use Rattle.std.specs.Prelude.{ℕ, ◌-◌, cond, List, [], ◌∷◌, ◌++◌, length, take, replicate, codes, decimal, ◌==◌}
use Rattle.std.specs.List.{prefix_len}
use Rattle.console.specs.Commands.{other_than}
use Rattle.scheme.specs.Ledger.{Answer, refused, never_written, bytes, wrote, Reply}

-- The lines of what is left of an input, of whose first line `line` was seen: a line ends at byte 10 or at the end, and an empty end is no line.
abbrev pub lines_from : List ℕ → List ℕ → List (List ℕ)
lines_from line [] = cond (length line == 0) [] (line ∷ [])
lines_from line (b ∷ bs) = cond (b == 10) (line ∷ lines_from [] bs) (lines_from (line ++ (b ∷ [])) bs)

abbrev pub lines : List ℕ → List (List ℕ)
lines bs = lines_from [] bs

-- A text as a sector: filled up with zero bytes.
abbrev pub padded : List ℕ → List ℕ
padded text = text ++ replicate (512 - length text) 0

-- The bytes before the first zero.
abbrev pub before_zero : List ℕ → List ℕ
before_zero bs = take (prefix_len (other_than 0) bs) bs

-- What is printed of line k, each with its end of line: a refusal, the bytes of sector n, or the reply to any call on sector n.
abbrev pub refused_line : ℕ → ℕ → List ℕ
refused_line k m = codes "line " ++ (decimal k ++ (codes " refused " ++ (decimal m ++ (10 ∷ []))))

abbrev pub bytes_line : ℕ → List ℕ → List ℕ
bytes_line n buffer = codes "r " ++ (decimal n ++ (codes " =" ++ (before_zero buffer ++ (10 ∷ []))))

abbrev pub reply_line : ℕ → ℕ → Reply → List ℕ
reply_line k n r = answer_line k n r.answer r.buffer
  where
    answer_line : ℕ → ℕ → Answer → List ℕ → List ℕ
    answer_line k n (refused m) buffer = refused_line k m
    answer_line k n never_written buffer = codes "r " ++ (decimal n ++ (codes " -" ++ (10 ∷ [])))
    answer_line k n bytes buffer = bytes_line n buffer
    answer_line k n (wrote e c) buffer = codes "w " ++ (decimal n ++ (codes " " ++ (decimal e ++ (codes " " ++ (decimal c ++ (10 ∷ []))))))
