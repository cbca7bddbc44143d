-- What an answer of the code says, in the terms of `Calls`: each case with its number and its values.
use Rattle.std.specs.Prelude.{ℕ, List, Some, None, Ok, Err, codes, Option, Result}
use Rattle.flash.specs.Calls.{Answer, good, refused, Marking, marked, unmarked}
use Rattle.flash.specs.declared.device.Mark.{Mark}
use Rattle.flash.specs.declared.device.Refusal.{Refusal}
use Rattle.flash.specs.declared.device.Refusal.TheVariants.{NoSuchBlock, NoSuchPage, BufferNotASector, SectorNumberReserved, PageNotBlank, BlockWornOut}

-- The number of each refusal.
abbrev pub refusal_number : Refusal → ℕ
refusal_number NoSuchBlock = 1
refusal_number NoSuchPage = 2
refusal_number BufferNotASector = 3
refusal_number SectorNumberReserved = 4
refusal_number PageNotBlank = 5
refusal_number BlockWornOut = 6

-- And what it says in words.
abbrev pub refusal_text : Refusal → List ℕ
refusal_text NoSuchBlock = codes "no such block"
refusal_text NoSuchPage = codes "no such page"
refusal_text BufferNotASector = codes "the buffer is not 512 bytes long"
refusal_text SectorNumberReserved = codes "the sector number is reserved"
refusal_text PageNotBlank = codes "the page is not blank"
refusal_text BlockWornOut = codes "the block is worn out"

abbrev pub mark_told : Option Mark → Marking
mark_told None = unmarked
mark_told (Some m) = marked m.sector.0 m.stamp

abbrev pub read_told : Result (Option Mark) Refusal → Answer Marking
read_told (Ok m) = good (mark_told m)
read_told (Err e) = refused (refusal_number e)

abbrev pub done_told : Result (Unit {0}) Refusal → Answer (Unit {0})
done_told (Ok u) = good tt
done_told (Err e) = refused (refusal_number e)

abbrev pub count_told : Result ℕ Refusal → Answer ℕ
count_told (Ok n) = good n
count_told (Err e) = refused (refusal_number e)
