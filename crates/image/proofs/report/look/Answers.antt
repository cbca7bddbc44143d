use Rattle.std.proofs.Common.{sym, ap, ◌∙◌, arith}
use Rattle.image.specs.Report.{chip_line}
use Rattle.image.proofs.Checks.{sound}
use Rattle.image.proofs.Reports.{look_checked, report_law}
use Rattle.image.proofs.report.look.Goals as goal

pub erase_total-requires-clause-within : goal.erase_total-requires-clause-within
erase_total-requires-clause-within c =
    let a = sound c.args.bytes.now _ _ _ (sym c.in-Ok.ensures.answer) in
    omega arith

pub returns-in-Ok-clause-law : goal.returns-in-Ok-clause-law
returns-in-Ok-clause-law c =
    report_law _ _
    (ap (chip_line c.in-Ok.geometry.blocks c.in-Ok.geometry.pages c.in-Ok.geometry.life) c.erase_total.ensures
    ∙ sym (look_checked c.args.bytes.now _ (omega arith) c.in-Ok.ensures.answer))
