-- Parts are the same wherever the texts of their leaves lie.
use Rattle.std.proofs.Common.{◌≡◌, ℕ, Bool, List, [], ◌∷◌, ◌++◌, length, map, take, drop, suc, refl, sym, ap, ◌∙◌, subst}
use Rattle.std.specs.Borrow.{Bor}
use Rattle.std.specs.Slice.{IsItemAt}
use Rattle.std.specs.Prelude.{Option, Some, None, option_map, option_to_list, slice_get}
use Rattle.std.proofs.lemmas.List.{take-map, drop-map, length-map, map-append}
use Rattle.std.proofs.lemmas.Option.{slice_get-map, slice_get_past}
use Rattle.gate_forms.specs.declared.reports.Advice.{Advice}
use Rattle.gate_forms.specs.declared.reports.Leaf.{Leaf}
use Rattle.gate_forms.specs.declared.reports.Node.{Node}
use Rattle.gate_forms.specs.declared.reports.Part.{Part}
use Rattle.spdx_parser.specs.declared.node.Operator.{Operator}
use Rattle.spdx_parser.specs.declared.node.Operator.TheVariants.{And, Or}
use Rattle.spdx_parser.specs.Tree as tree
use Rattle.spdx_parser.specs.declared.node.ExprNode.{ExprNode}
use Rattle.spdx_parser.specs.declared.node.ExpressionReq.{ExpressionReq}
use Rattle.spdx_parser.specs.Tree.{Tree, leaves, node_of}
use Rattle.spdx_evaluation.specs.Postfix.{IsPostfix, tree_in}
use Rattle.spdx_evaluation.specs.Requirements.{nows, requirements_in}
use Rattle.spdx_evaluation.specs.Truth.{truth_of}
use Rattle.spdx_evaluation.proofs.Nodes.{requirement_at, requirements_of_tree}
use Rattle.spdx_policy.specs.declared.decision.Decision.{Decision}
use Rattle.spdx_policy.specs.Rules.{Rules}
use Rattle.spdx_gate.specs.declared.judged.Judged.{Judged}
use Rattle.spdx_gate.specs.declared.judgement.Outcome.{Outcome}
use Rattle.spdx_gate.specs.declared.judgement.Outcome.TheVariants as outcome
use Rattle.gate_told.specs.Borrowed.{borrowed}
use Rattle.gate_told.specs.Moved.{moved, moved_node, moved_part, moved_text}
use Rattle.gate_told.specs.Told.{leaf_at, leaves_at, leaves_from, telling, told_advice, told_as, told_leaves}
use Rattle.gate_told.specs.Texts.{leaves_in}
use Rattle.gate_told.specs.Shown.{AreOf, is_leaf_accepted, is_tree_accepted, leaf_node, operator_node, operator_part, shown_parts}

pub moved_truths : (xs : List Leaf) → map is_leaf_accepted (map moved xs) ≡ map is_leaf_accepted xs
moved_truths [] = refl
moved_truths (x ∷ xs) = ap (λ (bs : List Bool). is_leaf_accepted x ∷ bs) (moved_truths xs)

moved_leaves : (depth : ℕ) (xs : List Leaf) → map moved_node (map (leaf_node depth) xs) ≡ map (leaf_node depth) (map moved xs)
moved_leaves depth [] = refl
moved_leaves depth (x ∷ xs) = ap (λ (ns : List Node). moved_node (leaf_node depth x) ∷ ns) (moved_leaves depth xs)

moved_operator : (o : Operator) (b : Bool) → moved_part (operator_part o b) ≡ operator_part o b
moved_operator And b = refl
moved_operator Or b = refl

pub moved_shown : (t : Tree) (xs : List Leaf) (depth : ℕ) → map moved_node (shown_parts t xs depth) ≡ shown_parts t (map moved xs) depth
moved_shown (tree.Leaf r) xs depth = moved_leaves depth xs
moved_shown (tree.Join o l r) xs depth =
    let k = length (leaves l) in
    let b = is_tree_accepted (tree.Join o l r) xs in
    let ls = shown_parts l (take k xs) (suc depth) in
    let rs = shown_parts r (drop k xs) (suc depth) in
    ap (λ (q : Part). record { depth = depth; part = q } ∷ map moved_node (ls ++ rs)) (moved_operator o b)
    ∙ ap (λ (bs : List Bool). operator_node depth o (truth_of (tree.Join o l r) bs) ∷ map moved_node (ls ++ rs)) (sym (moved_truths xs))
    ∙ ap (λ (ns : List Node). operator_node depth o (is_tree_accepted (tree.Join o l r) (map moved xs)) ∷ ns)
    (map-append moved_node ls rs
    ∙ ap (λ (ns : List Node). ns ++ map moved_node rs) (moved_shown l (take k xs) (suc depth) ∙ ap (λ (ys : List Leaf). shown_parts l ys (suc depth)) (sym (take-map moved k xs)))
    ∙ ap (λ (ns : List Node). shown_parts l (take k (map moved xs)) (suc depth) ++ ns) (moved_shown r (drop k xs) (suc depth) ∙ ap (λ (ys : List Leaf). shown_parts r ys (suc depth)) (sym (drop-map moved k xs))))

pub moved_names : (names : List (Bor (List ℕ))) (texts : List (List ℕ)) → nows names ≡ texts → map moved_text names ≡ map borrowed texts
moved_names names texts e = each names ∙ ap (map borrowed) e
  where
    each : (xs : List (Bor (List ℕ))) → map moved_text xs ≡ map borrowed (nows xs)
    each [] = refl
    each (x ∷ xs) = ap (λ (ys : List (Bor (List ℕ))). moved_text x ∷ ys) (each xs)

moved_option : (o : Option Leaf) → map moved (option_to_list o) ≡ option_to_list (option_map moved o)
moved_option None = refl
moved_option (Some x) = refl

moved_at : (xs : List Leaf) (numbers : List ℕ) → map moved (leaves_at xs numbers) ≡ leaves_at (map moved xs) numbers
moved_at xs [] = refl
moved_at xs (k ∷ ks) =
    map-append moved (leaf_at xs k) (leaves_at xs ks)
    ∙ ap (λ (ys : List Leaf). ys ++ map moved (leaves_at xs ks)) (moved_option (slice_get xs k) ∙ ap (λ (o : Option Leaf). option_to_list o) (sym (slice_get-map moved xs k)))
    ∙ ap (λ (ys : List Leaf). leaf_at (map moved xs) k ++ ys) (moved_at xs ks)

leaves_len : (p : Rules) (ds : List Decision) (number : ℕ) (rs : List ExpressionReq) → length (leaves_from p ds number rs) ≡ length rs
leaves_len p ds number [] = refl
leaves_len p ds number (r ∷ rs) = ap suc (leaves_len p ds (suc number) rs)

-- the leaves of an expression are those of its tree
pub are_of : (p : Rules) (d : Judged) (xs : List Leaf) → IsPostfix (map node_of d.nodes.items) → map moved xs ≡ told_leaves p d → AreOf (tree_in d.nodes.items) d.nodes.items xs
are_of p d xs post e = record {
  nodes_are = post;
  each =
      sym (length-map xs moved) ∙ ap length e ∙ leaves_len p d.decisions.items 0 (requirements_in d.nodes.items)
      ∙ sym (length-map (requirements_in d.nodes.items) requirement_at) ∙ ap length (requirements_of_tree d.nodes.items (tree_in d.nodes.items) post);
}

telling_judged : (p : Rules) (reason text : List ℕ) (d : Judged) (xs missing : List Leaf) (nodes : List Node) (help : Advice) → map moved xs ≡ told_leaves p d
    → nodes ≡ shown_parts (tree_in d.nodes.items) xs 0 → missing ≡ leaves_at xs d.missing.items → help ≡ told_advice d.advice
    → told_as text (map moved_node nodes) (map moved missing) help None ≡ telling p text reason (outcome.Judged d)
telling_judged p reason text d xs missing nodes help e n m h =
    let ns : map moved_node nodes ≡ shown_parts (tree_in d.nodes.items) (told_leaves p d) 0 =
    ap (map moved_node) n ∙ moved_shown (tree_in d.nodes.items) xs 0 ∙ ap (λ (ys : List Leaf). shown_parts (tree_in d.nodes.items) ys 0) e in
    let ms : map moved missing ≡ leaves_at (told_leaves p d) d.missing.items =
    ap (map moved) m ∙ moved_at xs d.missing.items ∙ ap (λ (ys : List Leaf). leaves_at ys d.missing.items) e in
    ap (λ (ys : List Node). told_as text ys (map moved missing) help None) ns
    ∙ ap (λ (ys : List Leaf). told_as text (shown_parts (tree_in d.nodes.items) (told_leaves p d) 0) ys help None) ms
    ∙ ap (λ (a : Advice). told_as text (shown_parts (tree_in d.nodes.items) (told_leaves p d) 0) (leaves_at (told_leaves p d) d.missing.items) a None) h

pub breakdown_is : (p : Rules) (reason text expression : List ℕ) (o : Outcome) (d : Judged) (ns : List ExprNode) (xs ys zs : List Leaf) (numbers : List ℕ) (missing : List Leaf) (nodes : List Node) (help : Advice)
    → o ≡ outcome.Judged d → IsPostfix (map node_of d.nodes.items) → ns ≡ d.nodes.items → ys ≡ xs → zs ≡ xs → numbers ≡ d.missing.items → expression ≡ text → map moved xs ≡ leaves_in p o
    → ((t : Tree) → AreOf t ns ys → nodes ≡ shown_parts t ys 0) → missing ≡ leaves_at zs numbers → help ≡ told_advice d.advice
    → told_as expression (map moved_node nodes) (map moved missing) help None ≡ telling p text reason o
breakdown_is p reason text expression o d ns xs ys zs numbers missing nodes help is post hn hy hz hk ht hx exact hm hh =
    let told : map moved xs ≡ told_leaves p d = hx ∙ ap (leaves_in p) is in
    let are : AreOf (tree_in d.nodes.items) ns ys =
    subst (λ (zs : List ExprNode). AreOf (tree_in d.nodes.items) zs ys) (sym hn)
    (subst (λ (zs : List Leaf). AreOf (tree_in d.nodes.items) d.nodes.items zs) (sym hy) (are_of p d xs post told)) in
    let parts_are : nodes ≡ shown_parts (tree_in d.nodes.items) xs 0 =
    exact (tree_in d.nodes.items) are ∙ ap (λ (zs : List Leaf). shown_parts (tree_in d.nodes.items) zs 0) hy in
    let missing_are : missing ≡ leaves_at xs d.missing.items =
    hm ∙ ap (λ (us : List Leaf). leaves_at us numbers) hz ∙ ap (leaves_at xs) hk in
    ap (λ (bytes : List ℕ). told_as bytes (map moved_node nodes) (map moved missing) help None) ht
    ∙ telling_judged p reason text d xs missing nodes help told parts_are missing_are hh
    ∙ ap (telling p text reason) (sym is)

-- no leaf has that number
pub leaf_none : (xs : List Leaf) (number : ℕ) (r : Option (Bor Leaf)) → IsItemAt xs number r → r ≡ None → leaf_at xs number ≡ []
leaf_none xs number None h e = ap (λ (o : Option Leaf). option_to_list o) (slice_get_past xs number h.3)
leaf_none xs number (Some x) h e = cc
