-- What the join of two devices means: the blocks of the first, then those of the second, at most 65,536 in all.
use Rattle.std.specs.Prelude.{◌≡◌, ℕ, ◌+◌, ◌-◌, ◌<◌, ◌≤◌, min, cond, ◌&&◌, List, length, Ok, Err, Result, ◌==◌, nat_le, nat_lt}
use Rattle.flash.specs.Calls.{accepts, program_answer, programmed, erase_answer, erased}
use Rattle.flash.specs.Meaning.{blank, Flash}
use Rattle.flash.specs.declared.device.Refusal.{Refusal}
use Rattle.flash.specs.declared.device.Refusal.TheVariants.{NoSuchBlock}
use Rattle.flash.specs.declared.join.Side.{Side}
use Rattle.flash.specs.declared.join.Side.TheVariants.{InFirst, InSecond}

-- Of two sides with b and c blocks, the one allows x and the other y: what the join allows is the smaller, unless a side has no blocks
-- and so no say.
abbrev pub shared : ℕ → ℕ → ℕ → ℕ → ℕ
shared b c x y = cond (b == 0) y (cond (c == 0) x (min x y))

abbrev pub joined_blocks : Flash → Flash → ℕ
joined_blocks f g = min (f.blocks + g.blocks) 65536

abbrev pub joined_pages : Flash → Flash → ℕ
joined_pages f g = shared f.blocks g.blocks f.pages g.pages

abbrev pub joined : Flash → Flash → Flash
joined f g = record {
  blocks = joined_blocks f g;
  pages = joined_pages f g;
  life = shared f.blocks g.blocks f.life g.life;
  count = λ c. cond (nat_lt c (joined_blocks f g)) (cond (nat_lt c f.blocks) (f.count c) (g.count (c - f.blocks))) 0;
  page = λ c i. cond (nat_lt c (joined_blocks f g) && nat_lt i (joined_pages f g)) (cond (nat_lt c f.blocks) (f.page c i) (g.page (c - f.blocks) i)) blank;
}

-- Where block b of the join lies: the block of that number of the first, the block of what is left of the number of the second, or
-- nowhere.
abbrev pub Lies : Flash → Flash → ℕ → Result Side Refusal → Type 0
Lies f g b (Ok (InFirst c)) = (b < joined_blocks f g) × (b < f.blocks) × (c.0 ≡ b)
Lies f g b (Ok (InSecond c)) = (b < joined_blocks f g) × (f.blocks ≤ b) × (c.0 ≡ b - f.blocks)
Lies f g b (Err e) = (joined_blocks f g ≤ b) × (e ≡ NoSuchBlock)

-- The sides after the join was asked to program page o of block b: where it accepts, the side in which the block lies is programmed there.
-- All else on both sides is as it was, what the join hides too.
abbrev pub first_programmed : Flash → Flash → ℕ → ℕ → ℕ → ℕ → List ℕ → Flash
first_programmed f g b o s t bs =
    cond (accepts (program_answer (joined f g) b o s (length bs)) && nat_lt b f.blocks) (programmed f b o s t bs) f

abbrev pub second_programmed : Flash → Flash → ℕ → ℕ → ℕ → ℕ → List ℕ → Flash
second_programmed f g b o s t bs =
    cond (accepts (program_answer (joined f g) b o s (length bs)) && nat_le f.blocks b) (programmed g (b - f.blocks) o s t bs) g

-- The sides after it was asked to erase block b: that block of its side is erased whole, with the pages that the join hides.
abbrev pub first_erased : Flash → Flash → ℕ → Flash
first_erased f g b = cond (accepts (erase_answer (joined f g) b) && nat_lt b f.blocks) (erased f b) f

abbrev pub second_erased : Flash → Flash → ℕ → Flash
second_erased f g b = cond (accepts (erase_answer (joined f g) b) && nat_le f.blocks b) (erased g (b - f.blocks)) g
