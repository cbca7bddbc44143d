-- The calls on numbered sectors, what they reply, and the ledger that says what every read must reply. It knows neither device nor tables.
use Rattle.std.specs.Prelude.{◌≡◌, ℕ, ◌+◌, true, false, cond, List, [], ◌∷◌, length, replicate, is_some, Some, None, Option, ◌==◌, nat_lt}
use Rattle.scheme.specs.Functions.{upd}

-- Each call names a sector and brings its own buffer.
pub data Call : Type 0 where
  read : ℕ → List ℕ → Call
  write : ℕ → List ℕ → Call

-- A write tells its erases and copies.
pub data Answer : Type 0 where
  refused : ℕ → Answer
  never_written : Answer
  bytes : Answer
  wrote : ℕ → ℕ → Answer

-- The answer, and the caller's buffer afterwards.
pub record Reply : Type 0 where
  pub answer : Answer
  pub buffer : List ℕ

-- A line for each sector, and how many accepted writes replaced bytes.
pub record Ledger : Type 0 where
  pub size : ℕ
  pub line : ℕ → Option (List ℕ)
  pub overwrites : ℕ

-- at first no sector was ever written
abbrev pub empty : ℕ → Ledger
empty size = record { size = size; line = λ _. None; overwrites = 0 }

-- what a read shows of a line
abbrev pub shown : Option (List ℕ) → Reply
shown (Some x) = record { answer = bytes; buffer = x }
shown None = record { answer = never_written; buffer = replicate 512 0xFF }

-- a read of sector n among `size`, whose lines are these, into a buffer
abbrev pub reads : ℕ → (ℕ → Option (List ℕ)) → ℕ → List ℕ → Reply
reads size line n buffer =
    elim (nat_lt n size) [
      | false ↦ record { answer = refused 13; buffer = buffer }
      | true ↦ elim (length buffer == 512) [
        | false ↦ record { answer = refused 3; buffer = buffer }
        | true ↦ shown (line n)
      ]
    ]

-- the ledger after an accepted write
abbrev pub entered : Ledger → ℕ → List ℕ → Ledger
entered g n x =
    record {
      size = g.size;
      line = upd g.line n (Some x);
      overwrites = g.overwrites + cond (is_some (g.line n)) 1 0;
    }

-- the ledger after a call that was answered so: only an accepted write changes it
abbrev pub ledger_next : Ledger → Call → Answer → Ledger
ledger_next g (read n buffer) a = g
ledger_next g (write n x) (wrote e c) = entered g n x
ledger_next g (write n x) (refused m) = g
ledger_next g (write n x) never_written = g
ledger_next g (write n x) bytes = g

-- the ledger after calls that were replied to so
abbrev pub ledger_after : Ledger → List Call → List Reply → Ledger
ledger_after g [] rs = g
ledger_after g (c ∷ cs) [] = g
ledger_after g (c ∷ cs) (r ∷ rs) = ledger_after (ledger_next g c r.answer) cs rs

-- The ledger's word on one call: a read's reply is the ledger's, and a write leaves its buffer alone.
abbrev pub Answered : Ledger → Call → Reply → Type 0
Answered g (read n buffer) r = r ≡ reads g.size g.line n buffer
Answered g (write n x) r = r.buffer ≡ x

-- Each call has its reply, and each reply is as the ledger at that point says.
abbrev pub AllAnswered : Ledger → List Call → List Reply → Type 0
AllAnswered g [] [] = Unit {0}
AllAnswered g [] (r ∷ rs) = ⊥
AllAnswered g (c ∷ cs) [] = ⊥
AllAnswered g (c ∷ cs) (r ∷ rs) = Answered g c r × AllAnswered (ledger_next g c r.answer) cs rs
