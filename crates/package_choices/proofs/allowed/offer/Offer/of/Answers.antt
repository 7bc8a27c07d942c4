use Rattle.std.proofs.Common.{◌≡◌, ◌∙◌, ap, sym}
use Rattle.spdx_evaluation.specs.Postfix.{tree_in}
use Rattle.spdx_gate.specs.Judging.{accepted_in}
use Rattle.package_choices.proofs.Allowing.{the, allowed_of_judged}
use Rattle.package_choices.proofs.allowed.offer.Offer.of.Goals as goal

pub returns-clause-allowed : goal.returns-clause-allowed
returns-clause-allowed c =
    let j = c.args.judged.now in
    allowed_of_judged j _ (ap (λ z. the (tree_in z) c.in_ok-allowed.allowed.items) c.as_slice-2.ensures ∙ ap (the (tree_in j.nodes.items)) (c.in_ok-allowed.ensures ∙ ap accepted_in c.as_slice.ensures.value))
