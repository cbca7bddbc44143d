-- What each call of a device answers, and the device and the buffer after it: total functions of the device's meaning.
-- A refused call answers the number of its refusal, the smaller number where two apply, and leaves device and buffer as they were.
use Rattle.std.specs.Prelude.{ℕ, ◌+◌, Bool, true, false, cond, ◌&&◌, List, length, replicate, ◌==◌, nat_lt}
use Rattle.flash.specs.Meaning.{Page, blank, holds, Flash}

-- A call is answered, or refused with a number.
pub data Answer (A : Type 0) : Type 0 where
  good : A → Answer A
  refused : ℕ → Answer A

abbrev pub accepts : {A : Type 0} → Answer A → Bool
accepts (good x) = true
accepts (refused n) = false

abbrev pub is_blank : Page → Bool
is_blank blank = true
is_blank (holds s t bs) = false

-- A page's mark: a sector number and a stamp, or none where the page is blank.
pub data Marking : Type 0 where
  unmarked : Marking
  marked : ℕ → ℕ → Marking

abbrev pub mark_of : Page → Marking
mark_of blank = unmarked
mark_of (holds s t bs) = marked s t

-- What a read fills its buffer with.
abbrev pub bytes_of : Page → List ℕ
bytes_of blank = replicate 512 0xFF
bytes_of (holds s t bs) = bs

module _ (f : Flash) where
  -- read page o of block b into a buffer of n bytes
  abbrev pub read_answer : ℕ → ℕ → ℕ → Answer Marking
  read_answer b o n =
      cond (nat_lt b f.blocks)
      (cond (nat_lt o f.pages)
      (cond (n == 512) (good (mark_of (f.page b o))) (refused 3))
      (refused 2))
      (refused 1)

  -- the buffer afterwards, which held `was`
  abbrev pub read_buffer : ℕ → ℕ → List ℕ → List ℕ
  read_buffer b o was = cond (accepts (read_answer b o (length was))) (bytes_of (f.page b o)) was

  -- program page o of block b with sector number s and n bytes
  abbrev pub program_answer : ℕ → ℕ → ℕ → ℕ → Answer (Unit {0})
  program_answer b o s n =
      cond (nat_lt b f.blocks)
      (cond (nat_lt o f.pages)
      (cond (n == 512)
      (cond (s == 0xFFFFFFFF) (refused 4)
      (cond (is_blank (f.page b o)) (good tt) (refused 5)))
      (refused 3))
      (refused 2))
      (refused 1)

  -- the device with page o of block b made p, and nothing else changed
  abbrev pub with_page : ℕ → ℕ → Page → Flash
  with_page b o p = record {
    blocks = f.blocks;
    pages = f.pages;
    life = f.life;
    count = f.count;
    page = λ c i. cond (c == b && i == o) p (f.page c i);
  }

  -- the device after a program with the mark s, t and the bytes bs
  abbrev pub programmed : ℕ → ℕ → ℕ → ℕ → List ℕ → Flash
  programmed b o s t bs = cond (accepts (program_answer b o s (length bs))) (with_page b o (holds s t bs)) f

  abbrev pub erase_answer : ℕ → Answer (Unit {0})
  erase_answer b =
      cond (nat_lt b f.blocks)
      (cond (nat_lt (f.count b) f.life) (good tt) (refused 6))
      (refused 1)

  -- the device with block b blank and erased once more, and nothing else changed
  abbrev pub with_erased : ℕ → Flash
  with_erased b = record {
    blocks = f.blocks;
    pages = f.pages;
    life = f.life;
    count = λ c. cond (c == b) (f.count c + 1) (f.count c);
    page = λ c i. cond (c == b) blank (f.page c i);
  }

  -- the device after an erase
  abbrev pub erased : ℕ → Flash
  erased b = cond (accepts (erase_answer b)) (with_erased b) f

  abbrev pub count_answer : ℕ → Answer ℕ
  count_answer b = cond (nat_lt b f.blocks) (good (f.count b)) (refused 1)
