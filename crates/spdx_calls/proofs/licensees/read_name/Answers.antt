use Rattle.std.proofs.Common.{refl, subst}
use Rattle.spdx_requirement.specs.Failures.{IfRefused}
use Rattle.spdx_calls.proofs.licensees.read_name.Goals as goal

pub returns-in-Err-Refused-clause-err : goal.returns-in-Err-Refused-clause-err
returns-in-Err-Refused-clause-err c =
    let none = subst (IfRefused _) c.in-Err-Refused.field-0-is c.in-Err-Refused.ensures.none in
    let fault = subst (IfRefused _) c.in-Err-Refused.field-0-is c.in-Err-Refused.ensures.err in
    (refl, (none, (c.in-Err-Refused.error, fault, c.refused_at.ensures)))
