use Rattle.std.proofs.Common.{◌∙◌, ap}
use Rattle.spdx_evaluation.specs.Postfix.{tree_of}
use Rattle.spdx_evaluation.specs.PostfixLaws.{tree_of_postfix}
use Rattle.spdx.proofs.expression.Expression.from_nodes.Goals as goal

pub returns-clause-tree : goal.returns-clause-tree
returns-clause-tree c = λ t e. ap tree_of e ∙ tree_of_postfix t
