use Rattle.std.proofs.Common.{◌∙◌, List, ap, map, subst}
use Rattle.spdx.specs.Value.{trees_of}
use Rattle.spdx_parser.specs.Tree.{Tree}
use Rattle.package_choices.specs.Refusals.{TellsJoint}
use Rattle.choice_program.specs.Among.{meant_of}
use Rattle.choice_program.proofs.Stating.{none_together, refused}
use Rattle.choice_program.proofs.accepted.joint_among.Goals as goal

pub returns-in-Err-Refused-clause-err : goal.returns-in-Err-Refused-clause-err
returns-in-Err-Refused-clause-err c own each =
    none_together c.args.accepted.now (map meant_of c.args.stated.now) own c.in-Err-Refused.unmet _ each
    (subst (λ (ts : List Tree). TellsJoint c.args.accepted.now ts c.in-Err-Refused.unmet) (ap trees_of c.deref.ensures.value ∙ c.in_ok-expressions.ensures)
    (refused _ _ _ c.in-Err-Refused.field-0-is c.in-Err-Refused.ensures.err))
    c.error_of.ensures
