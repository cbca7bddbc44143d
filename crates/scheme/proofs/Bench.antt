-- The worked run, by computation.
use Rattle.std.proofs.Common.{◌≡◌, [], ◌∷◌, ◌++◌, replicate, refl}
use Rattle.scheme.specs.Bench.{TwelveAnswers, bench, writes, answers, in_order}
use Rattle.scheme.specs.Functions.{upd}
use Rattle.scheme.specs.Ledger as ledger
use Rattle.scheme.specs.Ledger.{read, never_written, bytes, wrote, refused}
use Rattle.scheme.specs.Place.{place}
use Rattle.scheme.specs.Runs.{fit, format, call, write_refusal, replies}
use Rattle.scheme.specs.Steps.{merge, settle, write_first, write_start, append_sequential, write_sequential, reclaim, make_room, append_random, write_random, overwrite, write, formatted}
use Rattle.scheme.specs.Work.{each}

pub twelve_answers : TwelveAnswers
unfolding upd place each merge settle write_first write_start append_sequential write_sequential reclaim make_room append_random write_random overwrite write formatted fit format call write_refusal
twelve_answers = refl

-- the eight overwrites that the run goes on with, as a trial of the definitions
eight_more :
    answers (replies bench (writes (in_order ++ (4 ∷ 5 ∷ 9 ∷ 7 ∷ 8 ∷ 9 ∷ 9 ∷ 0 ∷ 1 ∷ 2 ∷ 3 ∷ 12 ∷ 5 ∷ 6 ∷ 9 ∷ 10 ∷ 11 ∷ 1 ∷ 2 ∷ 3 ∷ []))))
    ≡ replicate 16 (wrote 0 0)
    ++ (wrote 0 0 ∷ wrote 0 0 ∷ wrote 0 0 ∷ wrote 1 1 ∷ wrote 0 0 ∷ wrote 0 0 ∷ wrote 2 3 ∷ wrote 0 0 ∷ wrote 0 0 ∷ wrote 0 0 ∷ wrote 0 0 ∷ wrote 1 0 ∷ [])
    ++ (wrote 0 0 ∷ wrote 0 0 ∷ wrote 0 0 ∷ wrote 0 0 ∷ wrote 0 0 ∷ wrote 0 0 ∷ wrote 0 0 ∷ wrote 3 8 ∷ [])
unfolding upd place each merge settle write_first write_start append_sequential write_sequential reclaim make_room append_random write_random overwrite write formatted fit format call write_refusal
eight_more = refl

-- and calls of every kind, some of them refused
every_kind :
    answers (replies bench (read 5 (replicate 512 0) ∷ ledger.write 5 (replicate 512 1) ∷ ledger.write 5 (replicate 512 0) ∷ ledger.write 16 (replicate 512 1) ∷ ledger.write 3 [] ∷ read 5 (replicate 512 1) ∷ []))
    ≡ never_written ∷ wrote 0 0 ∷ wrote 0 0 ∷ refused 13 ∷ refused 3 ∷ bytes ∷ []
unfolding upd place each merge settle write_first write_start append_sequential write_sequential reclaim make_room append_random write_random overwrite write formatted fit format call write_refusal
every_kind = refl
