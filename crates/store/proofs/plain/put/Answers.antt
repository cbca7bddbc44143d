use Rattle.std.proofs.Common.{◌+◌, ◌-◌, set, ap, ◌∙◌, arith}
use borrow.Rule.Slice.PartMut.{put_mid}
use Rattle.store.proofs.Slots.{put_is}
use Rattle.store.proofs.plain.put.Goals as goal

pub returns : goal.returns
returns c =
    ap (put_mid (c.args.at + 1) (c.args.at + 513 - (c.args.at + 1)) (set c.args.bytes.now c.args.at 1)) c.copy_from_slice.ensures.after
    ∙ put_is c.args.bytes.now c.args.sector.now c.args.at c.requires (omega arith)
