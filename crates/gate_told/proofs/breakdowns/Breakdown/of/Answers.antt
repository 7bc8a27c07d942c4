use Rattle.std.proofs.Common.{sym, ap, ◌∙◌, string_bytes}
use Rattle.spdx_gate.specs.declared.judgement.Outcome.{Outcome}
use Rattle.spdx_gate.specs.Reports.{outcome_verdict}
use Rattle.spdx_gate.specs.Verdicts.{passes}
use Rattle.gate_told.proofs.Agreeing.{first_agrees}
use Rattle.gate_told.proofs.Moving.{breakdown_is}
use Rattle.gate_told.proofs.breakdowns.Breakdown.of.Goals as goal

pub returns-in_ok-help_by-in-Judged-clause-exact : goal.returns-in_ok-help_by-in-Judged-clause-exact
returns-in_ok-help_by-in-Judged-clause-exact c p e =
    breakdown_is p (string_bytes c.args.shown.now.reason) (string_bytes c.args.judgement.now.text) c.as_str-expression.result.now c.args.judgement.now.outcome c.in-Judged.judged
    c.as_slice.result.now c.in_ok-leaves-in-Judged.leaves.items c.deref.result.now c.deref-in-Judged.result.now c.deref-in-Judged-2.result.now
    _ _ _ c.in-Judged.is c.in-Judged.judged.postfix c.as_slice.ensures c.deref.ensures.value c.deref-in-Judged.ensures.value c.deref-in-Judged-2.ensures.value
    c.as_str-expression.ensures.value (c.in_ok-leaves-in-Judged.ensures ∙ e) c.in_ok-parts-in-Judged.ensures.exact c.in_ok-leaves_at-in-Judged.ensures c.in_ok-help_by-in-Judged.ensures

pub returns-in_ok-help_by-in-Judged-clause-agrees : goal.returns-in_ok-help_by-in-Judged-clause-agrees
returns-in_ok-help_by-in-Judged-clause-agrees c rows p judged right shown is =
    first_agrees rows p c.args.judgement.now.exceptions.items (string_bytes c.args.judgement.now.text) c.args.judgement.now.outcome c.in-Judged.judged
    c.as_slice.result.now c.in_ok-leaves-in-Judged.leaves.items c.deref.result.now c.in_ok-parts-in-Judged.field-0.items
    right c.in-Judged.is c.in-Judged.judged.postfix c.in-Judged.judged.each c.as_slice.ensures c.deref.ensures.value
    (c.in_ok-leaves-in-Judged.ensures ∙ shown.leaves_are) c.in_ok-parts-in-Judged.ensures.first
    ∙ ap (λ (o : Outcome). passes (outcome_verdict o)) (sym c.in-Judged.is ∙ is)
