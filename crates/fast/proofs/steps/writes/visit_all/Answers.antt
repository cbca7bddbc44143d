use Rattle.std.proofs.Common.{refl, ap, ◌∙◌, subst, arith}
use Rattle.scheme.specs.Steps.{visit}
use Rattle.fast.specs.Leaves.{at, Left}
use Rattle.fast.specs.Meaning.{view_of}
use Rattle.fast.proofs.Measures.{pages_of}
use Rattle.fast.proofs.Visited.{each_none, each_more}
use Rattle.fast.proofs.steps.writes.visit_all.Goals as goal

pub loop-i-init : goal.loop-i-init
loop-i-init g c = (each_none (visit c.args.tables.sizes.pages) (g.D.Device.flash c.args.device.now) (view_of c.args.tables), (refl, refl), (refl, refl), omega arith, omega arith)

pub loop-i-preserved : goal.loop-i-preserved
loop-i-preserved g c =
    let flash = g.D.Device.flash in
    let d = c.visit-step.ensures in
    let inv = c.loop-i.invariant in
    let next : Left (visit c.args.tables.sizes.pages c.loop-i.i (at (flash c.loop-i.device) (view_of c.loop-i.tables))) (flash c.visit-step.new.device) (view_of c.visit-step.result.tables) c.visit-step.result.erases c.visit-step.result.copies =
    subst (λ p. Left (visit p c.loop-i.i (at (flash c.loop-i.device) (view_of c.loop-i.tables))) (flash c.visit-step.new.device) (view_of c.visit-step.result.tables) c.visit-step.result.erases c.visit-step.result.copies) (ap pages_of inv.1.0) d.work.does in (
      each_more (visit c.args.tables.sizes.pages) c.loop-i.i (at (flash c.args.device.now) (view_of c.args.tables)) (flash c.loop-i.device) (flash c.visit-step.new.device) (view_of c.loop-i.tables) (view_of c.visit-step.result.tables) _ _ _ _ inv.0 next,
      (d.work.sized.0 ∙ inv.1.0, d.work.sized.1 ∙ inv.1.1),
      (d.logged.0 ∙ inv.2.0, d.logged.1 ∙ inv.2.1),
      omega (arith, inv.3, d.few.0),
      omega (arith, inv.4, d.few.1, ap pages_of inv.1.0),
    )
