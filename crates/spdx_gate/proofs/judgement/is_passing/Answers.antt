use Rattle.std.proofs.Common.{◌≡◌, ◌∙◌, ap, subst, Bool, map}
use Rattle.std.specs.Prelude.{IfOk}
use Rattle.spdx_evaluation.specs.Postfix.{tree_in}
use Rattle.spdx_gate.specs.Allowing.{mark_of}
use Rattle.spdx_gate.proofs.Passing.{passing}
use Rattle.spdx_gate.proofs.judgement.is_passing.Goals as goal

pub returns : goal.returns
returns c =
    let same = passing c.args.policy.now c.args.exceptions.now (tree_in c.args.nodes.now) _ _ c.in_ok-decisions.ensures (c.as_slice-2.ensures.value ∙ c.in_ok-marks.ensures ∙ ap (λ z. map mark_of z) c.as_slice.ensures.value) in
    subst (λ (v : Bool). IfOk c.is_accepted.result (λ b. b ≡ v)) same c.is_accepted.ensures
