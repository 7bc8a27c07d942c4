use Rattle.std.proofs.Common.{ap, ◌∙◌, ◌++◌, ℕ, List, map}
use Rattle.std.proofs.lemmas.Result.{on_ok_weaker}
use Rattle.spdx_gate.specs.Needs.{need_entry, need_packages}
use Rattle.gate_told.specs.Needs.{told_needed, told_packages}
use Rattle.gate_told.proofs.Written.{needs_written, works}
use Rattle.gate_told.proofs.needs.put_needs.Goals as goal

pub returns-clause-ok : goal.returns-clause-ok
returns-clause-ok c =
    let entries =
    ap (map told_needed) c.deref-2.ensures.value ∙ c.in_ok-needs.ensures.entries ∙ ap (map need_entry) c.deref.ensures.value ∙ c.in_ok-needed.ensures.entries in
    let packages =
    ap (map told_packages) c.deref-2.ensures.value ∙ c.in_ok-needs.ensures.packages ∙ ap (map need_packages) c.deref.ensures.value ∙ c.in_ok-needed.ensures.packages in
    on_ok_weaker c.put_summary.result
    (λ e. e ∙ ap (λ (xs : List ℕ). c.args.text.now.items ++ xs) (needs_written c.args.report.now c.deref-2.result c.unmet.result c.unsought.result entries packages c.unmet.ensures c.unsought.ensures))
    c.put_summary.ensures.ok

pub returns-clause-enough : goal.returns-clause-enough
returns-clause-enough c =
    on_ok_weaker c.put_summary.result (λ e. works c.args.report.now c.in_ok-needed.needed.items c.in_ok-needed.ensures.entries c.in_ok-needed.ensures.works) c.put_summary.ensures.ok
