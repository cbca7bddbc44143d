use Rattle.std.proofs.Common.{◌≡◌, Ok, length, drop, ap, ◌∙◌, arith, rules, take_at}
use Rattle.flash.specs.Stored.{image_flash}
use Rattle.chips.proofs.Images.{written}
use Rattle.chips.proofs.blank.blank_image.Goals as goal

pub returns-in_err-map_err-clause-refuses : goal.returns-in_err-map_err-clause-refuses
returns-in_err-map_err-clause-refuses c =
    let w : c.write_blank.result ≡ Ok tt = written c.args.geometry _ c.in_ok-length.length _ (search rules) (omega (arith, c.deref_mut.ensures.len, c.in_ok-bytes.ensures.len)) c.write_blank.ensures.answer in
    search rules

pub returns-clause-means : goal.returns-clause-means
returns-clause-means c =
    let last = c.write_blank.new.bytes in
    let n = c.in_ok-bytes.bytes.len in
    let long : length last ≡ n = omega (arith, c.write_blank.auto.bytes, c.deref_mut.ensures.len) in
    let w : c.write_blank.result ≡ Ok tt = written c.args.geometry _ c.in_ok-length.length _ (search rules) (omega (arith, c.deref_mut.ensures.len, c.in_ok-bytes.ensures.len)) c.write_blank.ensures.answer in
    ap image_flash (take_at last (drop (length last) c.in_ok-bytes.bytes.items) n long) ∙ (rw w at c.write_blank.ensures.means)
