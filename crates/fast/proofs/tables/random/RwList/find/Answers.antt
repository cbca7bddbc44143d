use Rattle.std.proofs.Common.{◌∙◌, Some, None}
use Rattle.fast.proofs.Entries.{found_first, found_second}
use Rattle.fast.proofs.tables.random.RwList.find.Goals as goal

pub returns-in-Some-clause-entry : goal.returns-in-Some-clause-entry
returns-in-Some-clause-entry c = found_first c.args.sector.0 _ c.as_slices.result.0.now c.as_slices.result.1.now _ c.in-Some.ensures.entry c.as_slices.ensures.items

pub returns-in_err-i-clause-entry : goal.returns-in_err-i-clause-entry
returns-in_err-i-clause-entry c =
    c.from_residual.ensures
    ∙ found_second c.args.sector.0 None c.as_slices.result.0.now c.as_slices.result.1.now _ c.in_default.ensures.entry c.in_err-i.ensures.entry c.as_slices.ensures.items

pub returns-clause-entry : goal.returns-clause-entry
returns-clause-entry c =
    found_second c.args.sector.0 (Some c.in_ok-i.i) c.as_slices.result.0.now c.as_slices.result.1.now _ c.in_default.ensures.entry c.in_ok-i.ensures.entry c.as_slices.ensures.items
