-- The line that is printed for an accepted image, and for the image of a chip.
use Rattle.std.proofs.Common.{◌≡◌, ℕ, ◌≤◌, List, length, sum, sym, ap, ◌∙◌, le-ltb}
use Rattle.image.specs.Chip.{encoding}
use Rattle.image.specs.Format.{words_from, Checked, accepted, checked}
use Rattle.image.specs.Report.{chip_line, checked_line, look_line, ReportLaw}
use Rattle.image.proofs.Checks.{complete}
use Rattle.image.proofs.Encodings.{encoding_accepted}
use Rattle.image.proofs.Totals.{counts_encoded}

pub look_checked : (bs : List ℕ) (x : Checked) → length bs ≤ 65536 → x ≡ checked bs → look_line bs ≡ checked_line bs x
look_checked bs x short e = let out = le-ltb 65536 (length bs) short in rw (out, ← e)

pub report_law : (bs line : List ℕ) → line ≡ look_line bs → ReportLaw bs line
report_law bs line e c ok same short =
    let a : accepted c.blocks c.pages c.life ≡ checked bs = sym (rw (← same) (complete (encoding c) _ _ _ (encoding_accepted c ok))) in
    e ∙ look_checked bs (accepted c.blocks c.pages c.life) short a
    ∙ ap (λ counts. chip_line c.blocks c.pages c.life (sum counts)) (ap (λ x. words_from x 20 c.blocks) (sym same) ∙ counts_encoded c ok)
