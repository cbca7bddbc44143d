-- What a write's answer says: the number of its refusal, if it was refused.
use Rattle.std.specs.Prelude.{ℕ, Some, None, Ok, Err, Option, Result}
use Rattle.fast.specs.declared.refusal.Refusal.{Refusal}
use Rattle.fast.specs.Told.{refusal_number}

abbrev pub refusal_told : Result (ℕ × ℕ) Refusal → Option ℕ
refusal_told (Ok counts) = None
refusal_told (Err e) = Some (refusal_number e)
