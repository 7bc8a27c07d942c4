use Rattle.std.proofs.Common.{◌≡◌, ◌∙◌, sym, ap, Bool, List, map}
use Rattle.std.specs.Cmp.Lexicographic.{pointwise}
use Rattle.spdx_parser.specs.declared.node.ExprNode.{ExprNode}
use Rattle.spdx_parser.specs.Tree.{Tree, Node, postfix, node_of}
use Rattle.spdx.specs.Equality.{same_node, same_tree, tree_key}
use Rattle.spdx.specs.EqualityLaws.{trees_decide, tree_told}
use Rattle.spdx.proofs.Alike.{same_in_postfix}
use Rattle.spdx.proofs.expression.equality.ExpressionPartialEq.eq.Goals as goal

same_as_trees : (r : Bool) (xs ys : List ExprNode) (a b : Tree) → map node_of xs ≡ postfix a → map node_of ys ≡ postfix b → r ≡ pointwise same_node (map node_of xs) (map node_of ys) → r ≡ same_tree a b
same_as_trees r xs ys a b e f h =
    h ∙ ap (λ (z : List Node). pointwise same_node z (map node_of ys)) e ∙ ap (λ (z : List Node). pointwise same_node (postfix a) z) f ∙ same_in_postfix a b

pub returns-clause-value : goal.returns-clause-value
returns-clause-value c =
    same_as_trees _ c.nodes.result.now c.nodes-2.result.now c.args.self.now.tree c.args.other.now.tree
    (c.nodes.ensures.postfix ∙ ap postfix c.nodes.ensures.tree) (c.nodes-2.ensures.postfix ∙ ap postfix c.nodes-2.ensures.tree) c.same_nodes.ensures

pub returns-clause-by_key : goal.returns-clause-by_key
returns-clause-by_key c =
    let same = returns-clause-value c in
    let there = trees_decide c.args.self.now.tree c.args.other.now.tree in
    ((λ e. there.0 (sym same ∙ e)), (λ e. same ∙ there.1 e))

pub returns-clause-of_one_catalogue : goal.returns-clause-of_one_catalogue
returns-clause-of_one_catalogue c = λ rows h k.
    let same = returns-clause-value c in
    let there = trees_decide c.args.self.now.tree c.args.other.now.tree in
    ((λ e. tree_told rows _ _ h k (there.0 (sym same ∙ e))), (λ e. same ∙ there.1 (ap tree_key e)))
