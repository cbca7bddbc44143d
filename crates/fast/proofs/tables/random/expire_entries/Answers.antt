use Rattle.std.proofs.Common.{map, ap, ◌∙◌, arith}
use Rattle.std.proofs.lemmas.List.Edits.{map_over_more}
use Rattle.std.proofs.lemmas.List.{get_or_default}
use Rattle.fast.specs.Views.{entry_view, expired_entry}
use Rattle.fast.proofs.Entries.{views_expired, mapped_all}
use Rattle.fast.proofs.tables.random.expire_entries.Goals as goal

pub loop-e-preserved : goal.loop-e-preserved
loop-e-preserved c =
    simp c.expired.ensures
    (map_over_more (expired_entry c.args.first.0 c.args.count) c.args.entries.now c.loop-e.entries c.loop-e.e-index _ c.loop-e-test.true c.loop-e.invariant
    (get_or_default c.loop-e.entries c.loop-e.e-index _ _ (omega arith)))

pub returns : goal.returns
returns c =
    ap (map entry_view) (mapped_all (expired_entry c.args.first.0 c.args.count) c.args.entries.now c.loop-e.entries c.loop-e.e-index c.loop-e-test.false c.loop-e.invariant)
    ∙ views_expired c.args.first.0 c.args.count c.args.entries.now
