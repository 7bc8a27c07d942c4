use Rattle.std.proofs.Common.{◌↔◌, IsTrue, IfOk, subst}
use Rattle.spdx_evaluation.specs.Postfix.{tree_in}
use Rattle.spdx_meaning.specs.Meaning.{IsEquivalent}
use Rattle.spdx.proofs.expression.Expression.is_equivalent.Goals as goal

-- src/expression/meaning.rt:64:5
pub returns-clause-ok : goal.returns-clause-ok
returns-clause-ok c =
    subst (λ t. IfOk c.is_equivalent.result (λ same. IsTrue same ↔ IsEquivalent t c.args.other.now.tree)) c.nodes.ensures.tree
    (subst (λ u. IfOk c.is_equivalent.result (λ same. IsTrue same ↔ IsEquivalent (tree_in c.nodes.result.now) u)) c.nodes-2.ensures.tree
    c.is_equivalent.ensures.ok)
