use Rattle.std.proofs.Common.{vec_items, sym, ap, ◌∙◌, subst}
use Rattle.scheme.specs.Law.{Law}
use Rattle.scheme.specs.Runs.{Start, last_layer, replies_of}
use Rattle.scheme.proofs.Runs.{every_run_is_lawful}
use Rattle.fast.specs.Replay.{calls_told}
use Rattle.fast.specs.Told.{layer_of, started}
use Rattle.fast.proofs.Played.{layer_played}
use Rattle.fast.proofs.replay.replay.Goals as goal

pub returns : goal.returns
returns g c =
    let flash = g.D.Device.flash in
    let start : Start = started (flash c.args.device) c.args.plan.logical c.args.plan.random c.args.plan.first_stamp in
    let calls = calls_told (vec_items c.args.calls) in
    let made = layer_played (layer_of flash) _ _ _ _ c.make_all.ensures in
    let e = c.in_ok-layer.ensures.after in
    record {
      law = subst (Law start calls) (sym (made.replies ∙ ap (λ y. replies_of y calls) e)) (every_run_is_lawful start calls);
      after = sym (made.after ∙ ap (λ y. last_layer y calls) e);
      untouched = tt;
    }
