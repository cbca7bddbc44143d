-- A worked run on a small device: eight blocks of four pages with a life of 100, four logical blocks, two random log blocks, first stamp 1.
use Rattle.std.specs.Prelude.{◌≡◌, ℕ, List, [], ◌∷◌, ◌++◌, replicate}
use Rattle.flash.specs.Meaning.{blank}
use Rattle.scheme.specs.Ledger.{Answer, Call, write, wrote, Reply}
use Rattle.scheme.specs.Runs.{Start, replies}

abbrev pub bench : Start
bench =
    record {
      device = record { blocks = 8; pages = 4; life = 100; count = λ _. 0; page = λ _ _. blank };
      logical = 4;
      random = 2;
      first = 1;
    }

-- a write of each of these sectors, in order
abbrev pub writes : List ℕ → List Call
writes [] = []
writes (n ∷ ns) = write n (replicate 512 0) ∷ writes ns

-- the answers that erases and copies stand for
abbrev pub answers : List Reply → List Answer
answers [] = []
answers (r ∷ rs) = r.answer ∷ answers rs

-- every sector once, in order
abbrev pub in_order : List ℕ
in_order = 0 ∷ 1 ∷ 2 ∷ 3 ∷ 4 ∷ 5 ∷ 6 ∷ 7 ∷ 8 ∷ 9 ∷ 10 ∷ 11 ∷ 12 ∷ 13 ∷ 14 ∷ 15 ∷ []

-- After that the writes of twelve more sectors tell these erases and copies.
abbrev pub TwelveAnswers : Type 0
TwelveAnswers =
    answers (replies bench (writes (in_order ++ (4 ∷ 5 ∷ 9 ∷ 7 ∷ 8 ∷ 9 ∷ 9 ∷ 0 ∷ 1 ∷ 2 ∷ 3 ∷ 12 ∷ []))))
    ≡ replicate 16 (wrote 0 0)
    ++ (wrote 0 0 ∷ wrote 0 0 ∷ wrote 0 0 ∷ wrote 1 1 ∷ wrote 0 0 ∷ wrote 0 0 ∷ wrote 2 3 ∷ wrote 0 0 ∷ wrote 0 0 ∷ wrote 0 0 ∷ wrote 0 0 ∷ wrote 1 0 ∷ [])
