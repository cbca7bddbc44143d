use Rattle.std.proofs.Common.{[], vec_items, subst}
use Rattle.std.proofs.lemmas.Result.{IfOk-weaker}
use Rattle.console.specs.Lines.{lines}
use Rattle.console.specs.Running.{Asks, ByLine, Prints}
use Rattle.console.proofs.Progress.{lines_meant}
use Rattle.fast.specs.Makes.{Made}
use Rattle.fast.specs.Told.{layer_of, started}
use Rattle.store.specs.Layered.{layer_table}
use Rattle.bench.proofs.fresh.respond_fresh.Goals as goal

pub returns : goal.returns
returns g c =
    let flash = g.D.Device.flash in
    let layer = c.in_ok-layer.ensures in
    let u = layer_table (layer_of flash c.respond.new.store) in
    record {
      prints = IfOk-weaker c.respond.result _ _
          (λ out h short. (
            u,
            subst (λ y. Prints (layer_table y) 1 (lines c.args.input.now) (vec_items out) u) layer.after
                (h short (started (flash c.args.device) 4 2 1, [], layer.law.reached)),
          ))
          c.respond.ensures.prints;
      made = IfOk-weaker c.respond.result _ _
          (λ out h short. (
            layer_of flash c.respond.new.store,
            subst (λ y. ByLine (Asks Made) y 1 (lines c.args.input.now) (vec_items out) (layer_of flash c.respond.new.store)) layer.after
                (lines_meant (layer_of flash) Made c.in_ok-layer.layer 1 (lines c.args.input.now) (vec_items out) c.respond.new.store (h short)),
          ))
          c.respond.ensures.made;
      refuses = c.respond.ensures.refuses;
    }
