-- What the calls and replies of a replay mean, in the terms of the ledger.
use Rattle.std.specs.Prelude.{List, map, vec_items}
use Rattle.scheme.specs.Ledger as ledger
use Rattle.fast.specs.Told.{read_told, write_told}
use Rattle.fast.specs.declared.replay.Answer.TheVariants as answers
use Rattle.fast.specs.declared.replay.Call.TheVariants.{Read, Write}
use Rattle.fast.specs.declared.replay.Call.{Call}
use Rattle.fast.specs.declared.replay.Reply.{Reply}

abbrev pub call_told : Call → ledger.Call
call_told (Read sector buffer) = ledger.read sector.0 (vec_items buffer)
call_told (Write sector buffer) = ledger.write sector.0 (vec_items buffer)

abbrev pub calls_told : List Call → List ledger.Call
calls_told cs = map call_told cs

abbrev pub reply_told : Reply → ledger.Reply
reply_told r =
    elim r.answer [
      | answers.Read found ↦ read_told found (vec_items r.buffer)
      | answers.Write counts ↦ write_told counts (vec_items r.buffer)
    ]

abbrev pub replies_told : List Reply → List ledger.Reply
replies_told rs = map reply_told rs
