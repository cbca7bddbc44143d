-- What an answer of the code says, in the terms of `Format`: each case with its number and its values.
use Rattle.std.specs.Prelude.{ℕ, Ok, Err, Result}
use Rattle.image.specs.Format.{Found, found, fault, Placed, placed, misplaced, Checked, accepted, faulty}
use Rattle.image.specs.declared.shape.Geometry.{Geometry}
use Rattle.image.specs.declared.fault.Problem.{Problem}
use Rattle.image.specs.declared.fault.Problem.TheVariants.{EndsInside, WrongCount, OutOfRange, Surplus}
use Rattle.image.specs.declared.fault.Section.{Section}
use Rattle.image.specs.declared.fault.Section.TheVariants.{Shape, EraseCounts, SectorNumbers, Stamps, Contents}
use Rattle.image.specs.declared.fault.NumberFault.{NumberFault}
use Rattle.image.specs.declared.fault.SectionFault.{SectionFault}
use Rattle.image.specs.declared.fault.ImageFault.{ImageFault}

abbrev pub problem_number : Problem → ℕ
problem_number EndsInside = 7
problem_number WrongCount = 8
problem_number OutOfRange = 9
problem_number Surplus = 10

abbrev pub section_number : Section → ℕ
section_number Shape = 1
section_number EraseCounts = 2
section_number SectorNumbers = 3
section_number Stamps = 4
section_number Contents = 5

abbrev pub number_told : Result ℕ NumberFault → Found
number_told (Ok n) = found n
number_told (Err e) = fault (problem_number e.problem) e.byte

abbrev pub section_told : Result ℕ SectionFault → Placed
section_told (Ok n) = placed n
section_told (Err e) = misplaced (problem_number e.fault.problem) (section_number e.section) e.fault.byte

abbrev pub shape_told : Result Geometry SectionFault → Checked
shape_told (Ok g) = accepted g.blocks g.pages g.life
shape_told (Err e) = faulty (problem_number e.fault.problem) (section_number e.section) e.fault.byte

-- What was read, or its fault with the section's name.
abbrev pub in_named : {T : Type 0} → Section → Result T NumberFault → Result T SectionFault
in_named s (Ok x) = Ok x
in_named s (Err e) = Err (record { section = s; fault = e })

-- A fault of an image: the number of the refusal, its section and its byte.
abbrev pub fault_number : ImageFault → ℕ
fault_number e = problem_number e.fault.fault.problem

abbrev pub fault_section : ImageFault → ℕ
fault_section e = section_number e.fault.section

abbrev pub fault_byte : ImageFault → ℕ
fault_byte e = e.fault.fault.byte

abbrev pub check_told : Result Geometry ImageFault → Checked
check_told (Ok g) = accepted g.blocks g.pages g.life
check_told (Err e) = faulty (fault_number e) (fault_section e) (fault_byte e)
