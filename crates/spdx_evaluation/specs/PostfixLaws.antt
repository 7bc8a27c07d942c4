-- A tree is given back by its postfix list.
use Rattle.std.specs.Prelude.{◌≡◌, List, [], ◌∷◌, ◌++◌}
use Rattle.std.proofs.Common.{refl, sym, ◌∙◌, ap}
use Rattle.std.proofs.lemmas.List.{append_assoc, append-nil}
use Rattle.spdx_parser.specs.declared.node.Operator.{Operator}
use Rattle.spdx_parser.specs.Tree.{Tree, Leaf, Join, Node, Op, postfix}
use Rattle.spdx_evaluation.specs.Postfix.{trees_behind, newest, tree_of}

pub regroup : (o : Operator) (l r : Tree) (ns : List Node) →
    postfix (Join o l r) ++ ns ≡ postfix l ++ (postfix r ++ Op o ∷ ns)
regroup o l r ns = simp append_assoc

pub trees_behind_postfix : (t : Tree) (ns : List Node) (ts : List Tree) →
    trees_behind (postfix t ++ ns) ts ≡ trees_behind ns (t ∷ ts)
trees_behind_postfix (Leaf r) ns ts = refl
trees_behind_postfix (Join o l r) ns ts =
    ap (λ (z : List Node). trees_behind z ts) (regroup o l r ns)
    ∙ trees_behind_postfix l (postfix r ++ Op o ∷ ns) ts
    ∙ trees_behind_postfix r (Op o ∷ ns) (l ∷ ts)

pub tree_of_postfix : (t : Tree) → tree_of (postfix t) ≡ t
tree_of_postfix t =
    ap (λ (z : List Node). newest (trees_behind z [])) (sym (append-nil (postfix t)))
    ∙ ap newest (trees_behind_postfix t [] [])
