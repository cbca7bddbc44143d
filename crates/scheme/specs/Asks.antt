-- What may be asked of the device at a moment, and what it does not refuse.
use Rattle.std.specs.Prelude.{◌≡◌, ℕ, ◌<◌, true, ◌≢◌, length}
use Rattle.flash.specs.Calls.{accepts, program_answer, erase_answer}
use Rattle.flash.specs.Meaning.{blank, holds}
use Rattle.scheme.specs.Place.{place}
use Rattle.scheme.specs.Work.{Moment, program, erase}

-- A program is of a page that is blank at that moment, and an erase of a block in which no sector's place lies at that moment.
abbrev pub Sound : ℕ → ℕ → Moment → Type 0
Sound P L m =
    elim m.ask [
      | program b p x ↦ m.before.flash.page b p ≡ blank
      | erase b ↦ (c o : ℕ) → c < L → o < P → (place P m.before.tables c o).block ≢ b
    ]

-- The device accepts it.
abbrev pub Unrefused : Moment → Type 0
Unrefused m =
    elim m.ask [
      | program b p x ↦ elim x [
        | blank ↦ Unit {0}
        | holds n t bytes ↦ accepts (program_answer m.before.flash b p n (length bytes)) ≡ true
      ]
      | erase b ↦ accepts (erase_answer m.before.flash b) ≡ true
    ]
