-- The line that `look` prints for any input, and what is said of a fault in words.
use Rattle.std.specs.Prelude.{◌≡◌, ℕ, ◌≤◌, cond, List, ◌++◌, length, codes, decimal, sum, nat_lt}
use Rattle.image.specs.Chip.{Chip, InRange, encoding}
use Rattle.image.specs.declared.fault.ImageFault.{ImageFault}
use Rattle.image.specs.declared.fault.NumberFault.{NumberFault}
use Rattle.image.specs.declared.fault.Problem.{Problem}
use Rattle.image.specs.declared.fault.Problem.TheVariants.{EndsInside, WrongCount, OutOfRange, Surplus}
use Rattle.image.specs.declared.fault.SectionFault.{SectionFault}
use Rattle.image.specs.declared.report.Report.{Report}
use Rattle.image.specs.declared.report.Report.TheVariants.{Accepted, Refused, TooLong}
use Rattle.image.specs.Format.{words_from, Checked, accepted, faulty, checked}
use Rattle.image.specs.Told.{section_number, fault_number, fault_section, fault_byte}

-- A chip of b blocks of p pages with the life l, erased t times in all.
abbrev pub chip_line : ℕ → ℕ → ℕ → ℕ → List ℕ
chip_line b p l t =
    codes "blocks " ++ (decimal b ++ (codes " pages " ++ (decimal p ++ (codes " life " ++ (decimal l ++ (codes " erases " ++ decimal t))))))

-- A refusal with its number, section and byte.
abbrev pub fault_line : ℕ → ℕ → ℕ → List ℕ
fault_line m s k = codes "refused " ++ (decimal m ++ (codes " section " ++ (decimal s ++ (codes " byte " ++ decimal k))))

-- What is said of bytes after their check: the erase counts are the B numbers from byte 20 on.
abbrev pub checked_line : List ℕ → Checked → List ℕ
checked_line bs (accepted b p l) = chip_line b p l (sum (words_from bs 20 b))
checked_line bs (faulty m s k) = fault_line m s k

-- The line for any input.
abbrev pub look_line : List ℕ → List ℕ
look_line bs = cond (nat_lt 65536 (length bs)) (codes "too long") (checked_line bs (checked bs))

-- The line that a report prints.
abbrev pub report_line : Report → List ℕ
report_line (Accepted g t) = chip_line g.blocks g.pages g.life t
report_line (Refused e) = fault_line (fault_number e) (fault_section e) (fault_byte e)
report_line TooLong = codes "too long"

-- Of the image of a chip that is short enough, the line tells that chip's numbers, and its erase counts added up.
abbrev pub ReportLaw : List ℕ → List ℕ → Type 0
ReportLaw bs line = (c : Chip) → InRange c → encoding c ≡ bs → length bs ≤ 65536 → line ≡ chip_line c.blocks c.pages c.life (sum c.counts)

-- A fault in words.
abbrev pub problem_text : Problem → List ℕ
problem_text EndsInside = codes "the bytes end inside a count or an item list"
problem_text WrongCount = codes "the count is wrong"
problem_text OutOfRange = codes "the number is out of range"
problem_text Surplus = codes "bytes follow the last section"

abbrev pub number_text : NumberFault → List ℕ
number_text e = codes "byte " ++ (decimal e.byte ++ (codes ": " ++ problem_text e.problem))

abbrev pub section_text : SectionFault → List ℕ
section_text e = codes "section " ++ (decimal (section_number e.section) ++ (codes ", " ++ number_text e.fault))

abbrev pub image_text : ImageFault → List ℕ
image_text e = codes "no chip image: " ++ section_text e.fault
