use Rattle.std.proofs.Common.{arith, rules}
use Rattle.flash.proofs.Chips.{chip_blank, after_program}
use Rattle.flash.proofs.chip.ImageChipDevice.program.Goals as goal

pub invariant_of-self : goal.invariant_of-self
invariant_of-self c =
    let a = after_program _ _ _ c.in_ok-geometry.ensures.0 c.args.self.now.image c.args.block.0 c.args.page.0 c.args.mark.sector.0 c.args.mark.stamp c.args.bytes.now
    c.in_ok-geometry.ensures.2 c.in_ok-geometry.ensures.3 c.put_page.ensures.fits.0 c.put_page.ensures.fits.1 c.in_ok-geometry.ensures.4 (search rules) in
    search rules

pub returns-clause-after : goal.returns-clause-after
returns-clause-after c =
    let e = chip_blank _ _ _ c.in_ok-geometry.ensures.0 c.args.self.now.image c.args.block.0 c.args.page.0 c.in_ok-geometry.ensures.2 c.in_ok-geometry.ensures.3 (search rules) in
    let a = after_program _ _ _ c.in_ok-geometry.ensures.0 c.args.self.now.image c.args.block.0 c.args.page.0 c.args.mark.sector.0 c.args.mark.stamp c.args.bytes.now
    c.in_ok-geometry.ensures.2 c.in_ok-geometry.ensures.3 c.put_page.ensures.fits.0 c.put_page.ensures.fits.1 c.in_ok-geometry.ensures.4 (search rules) in
    search rules
