use Rattle.std.proofs.Common.{◌<◌, length, arith, rules}
use Rattle.flash.specs.Stored.{chip_flash}
use Rattle.flash.proofs.Same.{read_good, read_fills}
use Rattle.flash.proofs.Chips.{chip_blank, chip_holds}
use Rattle.flash.proofs.chip.ImageChipDevice.read.Goals as goal

pub returns-then-sector : goal.returns-then-sector
returns-then-sector c =
    let e = chip_blank _ _ _ c.in_ok-geometry.ensures.0 c.args.self.now.image c.args.block.0 c.args.page.0 c.in_ok-geometry.ensures.2 c.in_ok-geometry.ensures.3 (search rules) in
    search rules

pub returns : goal.returns
returns c =
    let f = chip_flash c.args.self.now.bytes.now c.args.self.now.geometry in
    let h : c.args.block.0 < f.blocks = rw c.in_ok-geometry.ensures.0 c.in_ok-geometry.ensures.2 in
    let k : c.args.page.0 < f.pages = rw c.in_ok-geometry.ensures.0 c.in_ok-geometry.ensures.3 in
    let e = chip_holds _ _ _ c.in_ok-geometry.ensures.0 c.args.self.now.image c.args.block.0 c.args.page.0 c.in_ok-geometry.ensures.2 c.in_ok-geometry.ensures.3 (search rules) in
    record {
      answer = let r = read_good f c.args.block.0 c.args.page.0 _ _ _ h k e (length c.args.buffer.now) c.in_ok-geometry.ensures.4 in search rules;
      filled = let r = read_fills f c.args.block.0 c.args.page.0 _ _ _ h k e c.args.buffer.now c.in_ok-geometry.ensures.4 in search rules;
    }
