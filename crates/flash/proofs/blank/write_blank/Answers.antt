use Rattle.std.proofs.Common.{length, rules, ◌∙◌}
use Rattle.flash.proofs.Blanks.{written, verdict, plan_fits}
use Rattle.flash.proofs.blank.write_blank.Goals as goal

pub put_numbers-requires : goal.put_numbers-requires
put_numbers-requires c =
    let f = plan_fits (length c.args.bytes.now) c.args.geometry _ _ _ c.in_ok-check_source.ensures in
    search (rules, f.1)

pub returns-in_err-check_source : goal.returns-in_err-check_source
returns-in_err-check_source c = record {
  answer = search rules;
  after = search rules;
  accepted = search rules;
  means = search rules;
  verdict = verdict _ _ _ _;
}

pub returns : goal.returns
returns c =
    let f = plan_fits (length c.args.bytes.now) c.args.geometry _ _ _ c.in_ok-check_source.ensures in
    let w = written (length c.args.bytes.now) c.args.geometry c.fill.new.self c.put_numbers.new.bytes
    f.1 (c.fill.ensures.after (λ y e. e)) c.put_numbers.ensures in
    record {
      answer = search (rules, f.0);
      after = w.0;
      accepted = w.1;
      means = w.2;
      verdict = verdict _ _ _ _;
    }
