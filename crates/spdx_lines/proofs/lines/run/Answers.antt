use Rattle.std.proofs.Common.{◌≡◌, ◌∙◌, ap, subst, refl}
use Rattle.line_engine.proofs.Splitting.{splits}
use Rattle.line_engine.specs.Device.{devices}
use Rattle.line_engine.specs.Runs.{Runs}
use Rattle.spdx_minimize.specs.AcceptedModel.{licensees_of}
use Rattle.spdx_lines.specs.Found.{rule_of, verdict}
use Rattle.spdx_lines.proofs.Verdict.{the_verdict}
use Rattle.spdx_lines.proofs.lines.run.Goals as goal

pub returns : goal.returns
returns g c =
    let catalogue = c.args.catalogue.now in
    let mode = c.args.mode in
    let accepted = c.args.accepted.now in
    let made = c.new-each.result in
    let same = c.new-each.ensures in
    let rule : rule_of made.catalogue.now made.mode (licensees_of made.accepted) ≡ rule_of catalogue mode accepted =
    ap (λ x. rule_of x made.mode (licensees_of made.accepted)) same.catalogue ∙ ap (λ x. rule_of catalogue x (licensees_of made.accepted)) same.mode ∙ ap (λ x. rule_of catalogue mode x) same.accepted in
    let d = devices (g.I.Source.told c.args.input.now) (g.I.Source.told c.run.new.input) (g.O.Sink.told c.args.output.now) (g.O.Sink.told c.run.new.output) in
    record {
      verdict = verdict catalogue mode;
      verdicts = the_verdict catalogue mode;
      splits = splits (rule_of catalogue mode accepted) (λ before line. refl) (λ lines. refl);
      runs = subst (λ r. Runs r d c.run.result) rule c.run.ensures.runs;
    }
