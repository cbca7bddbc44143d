use Rattle.std.proofs.Common.{◌≡◌, [], length, ap, ⊎_elim, arith}
use Rattle.console.specs.Lines.{lines}
use Rattle.console.specs.Running.{Does, Asks}
use Rattle.console.proofs.Progress.{onward_line, onward_last, few}
use Rattle.console.proofs.runner.run.Goals as goal

pub loop-line-preserved : goal.loop-line-preserved
loop-line-preserved g c =
    let l = c.loop-line in
    let table = g.S.Store.table in
    let steps = c.in-Some.ensures.steps in (
      l.invariant.0,
      tt,
      omega (arith, l.invariant.2, ap length steps.1, steps.0.0, steps.0.1),
      λ v. c.run_line.ensures.stays (l.invariant.3 v),
      λ v. onward_line Does (table c.args.store.now) (lines c.args.input.now) (table l.store) _ _ _ _ c.in-Some.text.now _ _ _ (table c.run_line.new.store)
          steps.1 steps.0.0 steps.0.1 (l.invariant.4 v) (c.in_ok-run_line.ensures.adds (l.invariant.3 v)),
      onward_line (Asks g.S.Store.makes) c.args.store.now (lines c.args.input.now) l.store _ _ _ _ c.in-Some.text.now _ _ _ c.run_line.new.store
          steps.1 steps.0.0 steps.0.1 l.invariant.5 c.in_ok-run_line.ensures.made,
    )

pub returns : goal.returns
returns g c =
    -- the numbers do not run out before the lines do
    let ended : lines c.loop-line.line-iterator.b.0.now ≡ [] =
    ⊎_elim (λ top. absurd (omega (arith, top.1.0, c.loop-line.invariant.2, few c.args.input.now))) (λ none. none.1.0) c.in-None.ensures.steps in
    record {
      prints = λ v. onward_last Does _ _ _ _ _ _ ended (c.loop-line.invariant.4 v);
      made = onward_last (Asks g.S.Store.makes) _ _ _ _ _ _ ended c.loop-line.invariant.5;
      stays = c.loop-line.invariant.3;
    }
