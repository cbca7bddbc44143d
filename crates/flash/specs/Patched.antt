-- Bytes with some of them replaced.
use Rattle.std.specs.Prelude.{ℕ, ◌+◌, List, [], ◌∷◌, ◌++◌, length, take, drop}

-- The bytes with ys from byte a on.
unfoldable pub patched : List ℕ → ℕ → List ℕ → List ℕ
patched bs a ys = take a bs ++ (ys ++ drop (a + length ys) bs)

-- One patch after another, each a place and its bytes.
abbrev pub all_patched : List ℕ → List (ℕ × List ℕ) → List ℕ
all_patched bs [] = bs
all_patched bs (x ∷ ps) = all_patched (patched bs x.0 x.1) ps
