-- Work on a state: what is asked of the device, each with the state at that moment, how roles change, and the state after it.
--
-- Work is total: it asks the device by its own functions, in which a refused program or erase changes nothing, and goes on.
use Rattle.std.specs.Prelude.{ℕ, zero, suc, ◌+◌, cond, ◌&&◌, List, [], ◌∷◌, ◌++◌, Some, None, Option, nat_lt}
use Rattle.flash.specs.Calls as device
use Rattle.flash.specs.Meaning.{Flash, Page, blank, holds}
use Rattle.scheme.specs.Roles.{Change}
use Rattle.scheme.specs.Tables.{Tables}

pub record State : Type 0 where
  pub flash : Flash
  pub tables : Tables

-- Something that is asked of the device: a page of a block programmed, or a block erased.
pub data Ask : Type 0 where
  program : ℕ → ℕ → Page → Ask
  erase : ℕ → Ask

pub record Moment : Type 0 where
  pub before : State
  pub ask : Ask

-- The state after the work, the erases and the copied pages, what was asked and which roles changed, both in order.
pub record Work : Type 0 where
  pub after : State
  pub erases : ℕ
  pub copies : ℕ
  pub asked : List Moment
  pub changes : List Change

abbrev pub idle : State → Work
idle s = record { after = s; erases = 0; copies = 0; asked = []; changes = [] }

-- one piece of work, and the next from where it ended
infixl 20 ◌then◌
abbrev pub ◌then◌ : Work → (State → Work) → Work
◌then◌ w g =
    let v = g w.after in
    record {
      after = v.after;
      erases = w.erases + v.erases;
      copies = w.copies + v.copies;
      asked = w.asked ++ v.asked;
      changes = w.changes ++ v.changes;
    }

-- pieces k, k + 1, .., n of them
unfoldable pub each : (ℕ → State → Work) → ℕ → ℕ → State → Work
each g k zero s = idle s
each g k (suc n) s = each g k n s then g (k + n)

-- the tables written anew, by which roles change so
abbrev pub retable : List Change → (Tables → Tables) → State → Work
retable changes new s =
    record {
      after = record { flash = s.flash; tables = new s.tables };
      erases = 0;
      copies = 0;
      asked = [];
      changes = changes;
    }

-- what the device shows of a page: blank where it refuses the read
abbrev pub seen : Flash → ℕ → ℕ → Page
seen f b p = cond (nat_lt b f.blocks && nat_lt p f.pages) (f.page b p) blank

-- the bytes that a page holds, if it holds any
abbrev pub line : Page → Option (List ℕ)
line blank = None
line (holds n t x) = Some x

-- the device after it was asked to program a page; what is blank is not programmed
abbrev pub put_page : Flash → ℕ → ℕ → Page → Flash
put_page f b p blank = f
put_page f b p (holds n t x) = device.programmed f b p n t x

abbrev pub do_program : ℕ → ℕ → Page → State → Work
do_program b p x s =
    record {
      after = record { flash = put_page s.flash b p x; tables = s.tables };
      erases = 0;
      copies = 0;
      asked = record { before = s; ask = program b p x } ∷ [];
      changes = [];
    }

-- a copy to a page; what is blank is not copied
abbrev pub do_copy : Page → ℕ → ℕ → State → Work
do_copy blank b p s = idle s
do_copy (holds n t x) b p s =
    let w = do_program b p (holds n t x) s in
    record { after = w.after; erases = 0; copies = 1; asked = w.asked; changes = [] }

abbrev pub do_erase : ℕ → State → Work
do_erase b s =
    record {
      after = record { flash = device.erased s.flash b; tables = s.tables };
      erases = 1;
      copies = 0;
      asked = record { before = s; ask = erase b } ∷ [];
      changes = [];
    }

-- the blocks erased one after the other
abbrev pub erase_all : List ℕ → State → Work
erase_all [] s = idle s
erase_all (b ∷ bs) s = do_erase b s then erase_all bs
