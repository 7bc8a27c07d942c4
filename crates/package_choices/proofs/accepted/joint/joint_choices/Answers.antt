use Rattle.std.proofs.Common.{◌∙◌, ap, List, map}
use Rattle.spdx_requirement.specs.declared.requirement.LicenseReq.{LicenseReq}
use Rattle.spdx_requirement.specs.Items.{requirement_of}
use Rattle.spdx.specs.Value.{trees_of}
use Rattle.package_choices.specs.Accepted.{those_in}
use Rattle.package_choices.proofs.AcceptedTogether.{joint_of, not_refused}
use Rattle.package_choices.proofs.accepted.joint.joint_choices.Goals as goal

pub returns-in_ok-members-in-Ok-clause-ok : goal.returns-in_ok-members-in-Ok-clause-ok
returns-in_ok-members-in-Ok-clause-ok c =
    let same = c.as_slice-in-Ok.ensures.value ∙ c.in_ok-members-in-Ok.ensures ∙ ap (λ (z : List LicenseReq). those_in (map requirement_of z) c.args.accepted.now) c.as_slice.ensures.value in
    joint_of c.args.accepted.now _ (map requirement_of c.in-Ok.joint.items) (trees_of c.args.expressions.now) _ c.in-Ok.ensures.ok same c.own_choices.ensures.ok

pub returns-in_ok-members-in-Ok-clause-err : goal.returns-in_ok-members-in-Ok-clause-err
returns-in_ok-members-in-Ok-clause-err c =
    let same = c.as_slice-in-Ok.ensures.value ∙ c.in_ok-members-in-Ok.ensures ∙ ap (λ (z : List LicenseReq). those_in (map requirement_of z) c.args.accepted.now) c.as_slice.ensures.value in
    not_refused c.args.accepted.now _ (map requirement_of c.in-Ok.joint.items) (trees_of c.args.expressions.now) _ c.in-Ok.ensures.ok same c.own_choices.ensures.err
