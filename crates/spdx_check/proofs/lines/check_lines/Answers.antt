use Rattle.std.proofs.Common.{◌≡◌, ◌∙◌, ap, Err, subst}
use Rattle.std.specs.Prelude.{count_by, length}
use Rattle.line_engine.specs.Device.{devices}
use Rattle.line_engine.specs.Output.{capped}
use Rattle.line_engine.specs.Rule.{Rule}
use Rattle.line_engine.specs.Runs.{Runs}
use Rattle.spdx_check.specs.Checking.{blank_count, have_finding, refused_count, replacements_in}
use Rattle.spdx_check.specs.Found.{finding_of, rule_of}
use Rattle.spdx_check.proofs.Blanks.{counts_broken, counts_white}
use Rattle.spdx_check.proofs.Ended.{checks}
use Rattle.spdx_check.proofs.lines.check_lines.Goals as goal

pub returns-in-Ok-clause-checks : goal.returns-in-Ok-clause-checks
returns-in-Ok-clause-checks g c =
    checks c.args.check.now c.args.is_first c.args.file.now _ _ (subst (Runs _ _) c.in-Ok.is c.run.ensures.runs) (counts_white _ _ _ _ c.in-Ok.ensures.closed) tt

pub returns-in-Err-Read-clause-checks : goal.returns-in-Err-Read-clause-checks
returns-in-Err-Read-clause-checks g c =
    let rule = rule_of c.args.check.now c.args.is_first c.args.file.now in
    let d = devices (g.I.Source.told c.args.input.now) (g.I.Source.told c.run.new.input) (g.O.Sink.told c.args.output.now) (g.O.Sink.told c.run.new.output) in
    let file = c.run.new.verdicts in
    let fails = c.in-Err-Read.is ∙ ap Err c.in-Err-Read.field-0-is in
    checks c.args.check.now c.args.is_first c.args.file.now d _ (subst (Runs _ _) fails c.run.ensures.runs) tt
    (counts_broken rule d c.counted.result
    (λ lines. (file.lines ≡ capped (length lines)) × (file.blanks ≡ capped (blank_count lines))
    × (file.refused ≡ capped (refused_count (finding_of file.check.now.catalogue.now (replacements_in file.check.now) file.check.now.mode) lines))
    × (file.has_finding ≡ have_finding (finding_of file.check.now.catalogue.now (replacements_in file.check.now) file.check.now.mode) lines))
    (λ lines known. record {
      lines_are = c.counted.ensures.lines ∙ known.0;
      blanks_are = c.counted.ensures.blanks ∙ known.1;
      refused_are = c.counted.ensures.refused ∙ known.2 ∙ ap (λ (r : Rule). capped (count_by r.refuses lines)) c.run.ensures.rule;
    })
    (c.run.ensures.broken fails))

pub returns-in-Err-Write-clause-checks : goal.returns-in-Err-Write-clause-checks
returns-in-Err-Write-clause-checks g c =
    checks c.args.check.now c.args.is_first c.args.file.now _ _ (subst (Runs _ _) (c.in-Err-Write.is ∙ ap Err c.in-Err-Write.field-0-is) c.run.ensures.runs) tt tt

pub returns-clause-checks : goal.returns-clause-checks
returns-clause-checks g c =
    checks c.args.check.now c.args.is_first c.args.file.now _ _ (subst (Runs _ _) (c.in-Err-Memory.is ∙ ap Err c.in-Err-Memory.field-0-is) c.run.ensures.runs) tt tt

pub invariant_of-lines : goal.invariant_of-lines
invariant_of-lines g c = record { known = c.new.ensures c.args.check.now c.args.file.now }
