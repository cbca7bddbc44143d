use Rattle.std.proofs.Common.{sym, ap, ◌∙◌, arith}
use Rattle.scheme.proofs.Runs.{fits}
use Rattle.fast.proofs.Formatted.{formats_well, formats_unfit, is_fit}
use Rattle.fast.proofs.Measures.{pages_of, logical_of, random_of}
use Rattle.fast.proofs.Turns.{begun}
use Rattle.fast.proofs.layer.Layer.format.Goals as goal

pub returns-then-is_err : goal.returns-then-is_err
returns-then-is_err g c =
    let e = formats_unfit (g.D.Device.flash c.args.device) c.args.plan.logical c.args.plan.random c.args.plan.first_stamp c.fit.result (c.if-is_err.ensures).value c.fit.ensures.answer in
    record { after = e; law = begun _ _ e; untouched = tt }

pub invariant_of-sizes : goal.invariant_of-sizes
invariant_of-sizes g c =
    let f = g.D.Device.flash c.args.device in
    let h = fits f c.args.plan.logical c.args.plan.random (is_fit f c.args.plan.logical c.args.plan.random c.fit.result (c.if-is_err.ensures).value c.fit.ensures.answer) in
    record {
      pages_fit = (omega (arith, h.pages, c.pages.ensures), omega (arith, h.few_pages, c.pages.ensures));
      logical_fits = (h.some_L, h.few_L);
      random_fits = (h.some_R, h.few_R);
      blocks_fit = (omega (arith, h.few_blocks, c.blocks-2.ensures), omega (arith, h.wide, c.blocks-2.ensures));
    }

pub returns-in-Ok : goal.returns-in-Ok
returns-in-Ok g c =
    let f = g.D.Device.flash c.args.device in
    let s = c.in-Ok.ensures in
    let fit = is_fit f c.args.plan.logical c.args.plan.random c.fit.result (c.if-is_err.ensures).value c.fit.ensures.answer in
    let e = formats_well f c.args.plan.logical c.args.plan.random c.args.plan.first_stamp (sym fit) (g.D.Device.flash c.erase_all.new.device) c.in-Ok.tables c.blocks-2.result c.blocks-2.ensures (ap pages_of s.1 ∙ c.pages.ensures) (ap logical_of s.1) (ap random_of s.1) s.0 c.erase_all.ensures in
    record { after = e; law = begun _ _ e; untouched = tt }
