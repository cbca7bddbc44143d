use Rattle.std.proofs.Common.{◌≡◌, ◌*◌, ◌^◌, ◌≤◌, sum}
use Rattle.image.specs.Format.{words_from}
use Rattle.image.proofs.report.erase_total.Given as goal

abbrev pub invariant-loop-count : goal.invariant-loop-count
invariant-loop-count l = record { total : l.total ≡ sum (words_from l.bytes 20 l.count-index); small : l.total ≤ l.count-index * 2 ^ 32 }
