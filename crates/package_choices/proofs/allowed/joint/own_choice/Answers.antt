use Rattle.std.proofs.Common.{◌∙◌, ap, Bool, List, length}
use Rattle.package_choices.proofs.Meeting.{each_met}
use Rattle.package_choices.proofs.allowed.joint.own_choice.Goals as goal

pub least-requires-clause-candidates : goal.least-requires-clause-candidates
least-requires-clause-candidates c =
    let q = c.args.question.now in
    ap (λ (z : List Bool). length z) (c.as_slice-2.ensures.value ∙ c.in_ok-candidates.ensures) ∙ each_met c.args.selection.now q ∙ q.each
