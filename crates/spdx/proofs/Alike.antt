-- Postfix lists are the same node by node exactly where their trees are the same.
use Rattle.std.proofs.Common.{◌≡◌, true, false, ◌&&◌, List, [], ◌∷◌, ◌++◌, refl, sym, ◌∙◌, ap}
use Rattle.std.specs.Cmp.Lexicographic.{pointwise}
use Rattle.std.proofs.lemmas.Bool.Decides.{same_from_decides}
use Rattle.spdx_parser.specs.declared.node.Operator.{Operator}
use Rattle.spdx_parser.specs.Tree.{Tree, Leaf, Join, Node, Op, Req, postfix}
use Rattle.std.proofs.lemmas.List.{append-nil}
use Rattle.spdx_evaluation.specs.Postfix.{join_trees, trees_behind}
use Rattle.spdx_evaluation.specs.PostfixLaws.{trees_behind_postfix}
use Rattle.spdx_requirement.specs.Equality.{same_requirement}
use Rattle.spdx_requirement.specs.EqualityLaws.{both_true, true_both}
use Rattle.spdx.specs.Equality.{same_operator, same_node, same_tree}

joins_same : (o p : Operator) (ss ts : List Tree) → same_operator o p ≡ true → pointwise same_tree ss ts ≡ true → pointwise same_tree (join_trees o ss) (join_trees p ts) ≡ true
joins_same o p [] [] e h = refl
joins_same o p [] (t ∷ ts) e h = let bad : false ≡ true = h in cc
joins_same o p (s ∷ ss) [] e h = let bad : false ≡ true = h in cc
joins_same o p (s ∷ []) (t ∷ []) e h = h
joins_same o p (s ∷ []) (t ∷ u ∷ us) e h = let bad : false ≡ true = (both_true _ _ h).1 in cc
joins_same o p (s ∷ r ∷ rs) (t ∷ []) e h = let bad : false ≡ true = (both_true _ _ h).1 in cc
joins_same o p (s ∷ r ∷ rs) (t ∷ u ∷ us) e h =
    let first = both_true (same_tree s t) _ h in
    let second = both_true (same_tree r u) _ first.1 in
    true_both (same_operator o p && (same_tree r u && same_tree s t)) _ (true_both _ _ e (true_both _ _ second.0 first.0)) second.1

trees_same : (ms ns : List Node) (ss ts : List Tree) → pointwise same_node ms ns ≡ true → pointwise same_tree ss ts ≡ true → pointwise same_tree (trees_behind ms ss) (trees_behind ns ts) ≡ true
trees_same [] [] ss ts e h = h
trees_same [] (n ∷ ns) ss ts e h = let bad : false ≡ true = e in cc
trees_same (m ∷ ms) [] ss ts e h = let bad : false ≡ true = e in cc
trees_same (Req r ∷ ms) (Req s ∷ ns) ss ts e h =
    let both = both_true (same_requirement r s) _ e in
    trees_same ms ns (Leaf r ∷ ss) (Leaf s ∷ ts) both.1 (true_both (same_requirement r s) _ both.0 h)
trees_same (Op o ∷ ms) (Op p ∷ ns) ss ts e h =
    let both = both_true (same_operator o p) _ e in
    trees_same ms ns (join_trees o ss) (join_trees p ts) both.1 (joins_same o p ss ts both.0 h)
trees_same (Req r ∷ ms) (Op p ∷ ns) ss ts e h = let bad : false ≡ true = e in cc
trees_same (Op o ∷ ms) (Req s ∷ ns) ss ts e h = let bad : false ≡ true = e in cc

appended_same : (ms ns ks ls : List Node) → pointwise same_node ms ns ≡ true → pointwise same_node ks ls ≡ true → pointwise same_node (ms ++ ks) (ns ++ ls) ≡ true
appended_same [] [] ks ls e h = h
appended_same [] (n ∷ ns) ks ls e h = let bad : false ≡ true = e in cc
appended_same (m ∷ ms) [] ks ls e h = let bad : false ≡ true = e in cc
appended_same (m ∷ ms) (n ∷ ns) ks ls e h =
    let both = both_true (same_node m n) _ e in
    true_both (same_node m n) _ both.0 (appended_same ms ns ks ls both.1 h)

nodes_same : (a b : Tree) → same_tree a b ≡ true → pointwise same_node (postfix a) (postfix b) ≡ true
nodes_same (Leaf r) (Leaf s) e = true_both (same_requirement r s) true e refl
nodes_same (Join o l r) (Join p t u) e =
    let both = both_true (same_operator o p) _ e in
    let sides = both_true (same_tree l t) _ both.1 in
    appended_same (postfix l) (postfix t) (postfix r ++ Op o ∷ []) (postfix u ++ Op p ∷ []) (nodes_same l t sides.0)
    (appended_same (postfix r) (postfix u) (Op o ∷ []) (Op p ∷ []) (nodes_same r u sides.1) (true_both (same_operator o p) true both.0 refl))
nodes_same (Leaf r) (Join p t u) e = let bad : false ≡ true = e in cc
nodes_same (Join o l r) (Leaf s) e = let bad : false ≡ true = e in cc

-- the one tree that a postfix list leaves
left_alone : (t : Tree) → trees_behind (postfix t) [] ≡ t ∷ []
left_alone t = ap (λ (z : List Node). trees_behind z []) (sym (append-nil (postfix t))) ∙ trees_behind_postfix t [] []

pub same_in_postfix : (a b : Tree) → pointwise same_node (postfix a) (postfix b) ≡ same_tree a b
same_in_postfix a b =
    same_from_decides {P = same_tree a b ≡ true} (pointwise same_node (postfix a) (postfix b)) (same_tree a b) (
      (λ e.
          let left : pointwise same_tree (a ∷ []) (b ∷ []) ≡ true =
          ap (λ (z : List Tree). pointwise same_tree z (b ∷ [])) (sym (left_alone a))
          ∙ ap (λ (z : List Tree). pointwise same_tree (trees_behind (postfix a) []) z) (sym (left_alone b))
          ∙ trees_same (postfix a) (postfix b) [] [] e refl in
          (both_true (same_tree a b) _ left).0),
      nodes_same a b,
    )
    ((λ e. e), (λ e. e))
