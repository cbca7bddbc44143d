-- What a sector store means: a table of sectors, each with its bytes and its bar.
use Rattle.std.specs.Prelude.{◌≡◌, ℕ, cond, ◌⊎◌, List, length, Some, None, Option, ◌==◌, nat_lt}
use Rattle.scheme.specs.Functions.{upd}

-- The sectors below `size`. A sector was never written, or has 512 bytes; its bar is 0, or the number of the refusal that its next write meets.
pub record Table : Type 0 where
  pub size : ℕ
  pub line : ℕ → Option (List ℕ)
  pub bar : ℕ → ℕ

-- What a write of sector n from a buffer of so many bytes is refused with, if it is: no such sector, a buffer that is no sector, the bar.
abbrev pub write_refusal : Table → ℕ → ℕ → Option ℕ
write_refusal t n len =
    cond (nat_lt n t.size) (cond (len == 512) (cond (t.bar n == 0) None (Some (t.bar n))) (Some 3)) (Some 13)

-- The lines after a write that was refused so, or not at all.
abbrev pub lines_after : Option ℕ → (ℕ → Option (List ℕ)) → ℕ → List ℕ → ℕ → Option (List ℕ)
lines_after None line n bytes = upd line n (Some bytes)
lines_after (Some m) line n bytes = line

-- A bar stays, or goes from 0 to 12 or 14.
abbrev pub BarMoves : ℕ → ℕ → Type 0
BarMoves a b = (a ≡ b) ⊎ ((a ≡ 0) × ((b ≡ 12) ⊎ (b ≡ 14)))

-- What a write leaves: one sector set if it was accepted and everything as it was if not.
pub record Written (t u : Table) (n : ℕ) (bytes : List ℕ) (refusal : Option ℕ) : Type 0 where
  pub refused : refusal ≡ write_refusal t n (length bytes)
  pub size : u.size ≡ t.size
  pub lines : u.line ≡ lines_after refusal t.line n bytes
  pub bars : (k : ℕ) → BarMoves (t.bar k) (u.bar k)
  pub kept : (m : ℕ) → refusal ≡ Some m → u ≡ t
