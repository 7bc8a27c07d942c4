use Rattle.std.proofs.Common.{rules}
use Rattle.spdx_uses.specs.Policy.{accepts}
use Rattle.spdx_uses.proofs.gate.may_use.Goals as goal

pub returns-clause-ok : goal.returns-clause-ok
returns-clause-ok c =
    (c.in_ok-expression.expression, search rules, c.in_ok-evaluate.ensures.by (accepts c.args.accepted.now) (λ x b g called. search rules))
