use Rattle.std.proofs.Common.{◌≡◌, ◌∙◌, ap, subst}
use Rattle.line_engine.specs.Device.{devices}
use Rattle.line_engine.specs.Runs.{Runs}
use Rattle.spdx_lines.specs.Found.{rule_of_all, verdict}
use Rattle.spdx_lines.proofs.Verdict.{the_verdict}
use Rattle.spdx_lines.proofs.Keeping.{closes_alike}
use Rattle.spdx_lines.proofs.lines.run_all_in.Goals as goal

pub returns : goal.returns
returns g c =
    let catalogue = c.args.catalogue.now in
    let mode = c.args.mode in
    let accepted = c.args.accepted.now in
    let made = c.new-all.result in
    let same = c.new-all.ensures in
    let rule : rule_of_all made.catalogue.now made.mode made.accepted.now ≡ rule_of_all catalogue mode accepted =
    ap (λ x. rule_of_all x made.mode made.accepted.now) same.catalogue ∙ ap (λ x. rule_of_all catalogue x made.accepted.now) same.mode ∙ ap (λ x. rule_of_all catalogue mode x) same.accepted in
    let d = devices (g.I.Source.told c.args.input.now) (g.I.Source.told c.run_in.new.input) (g.O.Sink.told c.args.output.now) (g.O.Sink.told c.run_in.new.output) in
    record {
      verdict = verdict catalogue mode;
      verdicts = the_verdict catalogue mode;
      doubles = closes_alike catalogue mode accepted;
      runs = subst (λ r. Runs r d c.run_in.result) rule c.run_in.ensures.runs;
    }
