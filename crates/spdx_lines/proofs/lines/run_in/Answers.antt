use Rattle.std.proofs.Common.{◌≡◌, ◌∙◌, refl, ap, subst}
use Rattle.line_engine.proofs.Splitting.{splits}
use Rattle.line_engine.specs.Device.{devices}
use Rattle.line_engine.specs.Runs.{Runs}
use Rattle.spdx_minimize.specs.AcceptedModel.{licensees_of}
use Rattle.spdx_lines.specs.Found.{rule_of, verdict}
use Rattle.spdx_lines.proofs.Verdict.{the_verdict}
use Rattle.spdx_lines.proofs.lines.run_in.Goals as goal

pub returns : goal.returns
returns g c =
    let catalogue = c.args.catalogue.now in
    let mode = c.args.mode in
    let accepted = c.args.accepted.now in
    let each = c.new-each.result in
    let made = c.new-each.ensures in
    let rule : rule_of each.catalogue.now each.mode (licensees_of each.accepted) ≡ rule_of catalogue mode accepted =
    ap (λ x. rule_of x each.mode (licensees_of each.accepted)) made.catalogue ∙ ap (λ x. rule_of catalogue x (licensees_of each.accepted)) made.mode ∙ ap (λ x. rule_of catalogue mode x) made.accepted in
    let d = devices (g.I.Source.told c.args.input.now) (g.I.Source.told c.run_in.new.input) (g.O.Sink.told c.args.output.now) (g.O.Sink.told c.run_in.new.output) in
    record {
      verdict = verdict catalogue mode;
      verdicts = the_verdict catalogue mode;
      splits = splits (rule_of catalogue mode accepted) (λ before line. refl) (λ lines. refl);
      runs = subst (λ r. Runs r d c.run_in.result) rule c.run_in.ensures.runs;
    }
