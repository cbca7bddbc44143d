-- What calls do to whatever takes them.
use Rattle.std.specs.Prelude.{◌≡◌, List, [], ◌∷◌}
use Rattle.scheme.specs.Ledger.{Call, Reply}
use Rattle.scheme.specs.Runs.{Layer, call}

-- A call on a layer leaves and replies what the scheme's does.
pub record Made (y z : Layer) (c : Call) (r : Reply) : Type 0 where
  pub reply : r ≡ (call y c).reply
  pub after : z ≡ (call y c).after

-- The calls, made one after the other, lead from x to y, and each is replied to so.
abbrev pub MakesAll : {S : Type 0} → (S → S → Call → Reply → Type 0) → S → List Call → List Reply → S → Type 0
MakesAll makes x [] [] y = x ≡ y
MakesAll makes x [] (r ∷ rs) y = ⊥
MakesAll makes x (c ∷ cs) [] y = ⊥
MakesAll {S} makes x (c ∷ cs) (r ∷ rs) y = (z : S) × makes x z c r × MakesAll makes z cs rs y
