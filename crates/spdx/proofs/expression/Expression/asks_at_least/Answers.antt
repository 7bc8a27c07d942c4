use Rattle.std.proofs.Common.{◌↔◌, IsTrue, IfOk, subst}
use Rattle.spdx_evaluation.specs.Postfix.{tree_in}
use Rattle.spdx_meaning.specs.Meaning.{AsksAtLeast}
use Rattle.spdx.proofs.expression.Expression.asks_at_least.Goals as goal

-- src/expression/meaning.rt:46:5
pub returns-clause-ok : goal.returns-clause-ok
returns-clause-ok c =
    subst (λ t. IfOk c.asks_at_least.result (λ asks. IsTrue asks ↔ AsksAtLeast t c.args.other.now.tree)) c.nodes.ensures.tree
    (subst (λ u. IfOk c.asks_at_least.result (λ asks. IsTrue asks ↔ AsksAtLeast (tree_in c.nodes.result.now) u)) c.nodes-2.ensures.tree
    c.asks_at_least.ensures.ok)
