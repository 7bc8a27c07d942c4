use Rattle.std.proofs.Common.{ap, ◌∙◌, ℕ, List, map, string_bytes}
use Rattle.gate_forms.specs.Totals.{unused_text}
use Rattle.spdx_evaluation.specs.Requirements.{nows}
use Rattle.gate_told.specs.Borrowed.{borrowed}
use Rattle.gate_told.specs.Unused.{unused_of}
use Rattle.gate_told.proofs.Silent.{all_silent, unchanged}
use Rattle.gate_told.proofs.Written.{unused_written}
use Rattle.gate_told.proofs.unused.put_all_unused.Goals as goal

pub returns-clause-silent : goal.returns-clause-silent
returns-clause-silent c used =
    let path = c.args.path.now in
    let texts = ap nows c.deref-2.ensures.value ∙ c.in_ok-names.ensures ∙ ap (map string_bytes) c.deref.ensures.value ∙ c.in_ok-unused.ensures
    ∙ ap (unused_of c.args.policy.now) c.in_ok-uses.ensures in
    unchanged c.put_unused.result c.args.text.now.items c.put_unused.new.text.items _ c.put_unused.ensures.ok c.put_unused.ensures.err
    (unused_written path c.deref-2.result.now _ texts
    ∙ ap (λ (ts : List (List ℕ)). unused_text path (map borrowed ts)) (all_silent c.args.policy.now c.args.report.now used))
