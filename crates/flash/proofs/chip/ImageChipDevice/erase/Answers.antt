use Rattle.std.proofs.Common.{rules}
use Rattle.flash.proofs.Chips.{chip_count, after_erase}
use Rattle.flash.proofs.chip.ImageChipDevice.erase.Goals as goal

pub invariant_of-self : goal.invariant_of-self
invariant_of-self c =
    let a = after_erase _ _ _ c.in_ok-geometry.ensures.0 c.args.self.now.image c.args.block.0 c.in_ok-geometry.ensures.2 (search rules) in
    search rules

pub returns-clause-after : goal.returns-clause-after
returns-clause-after c =
    let e = chip_count _ _ _ c.in_ok-geometry.ensures.0 c.args.self.now.image c.args.block.0 c.in_ok-geometry.ensures.2 in
    let a = after_erase _ _ _ c.in_ok-geometry.ensures.0 c.args.self.now.image c.args.block.0 c.in_ok-geometry.ensures.2 (search rules) in
    search rules
