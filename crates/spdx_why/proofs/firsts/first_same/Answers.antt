use Rattle.std.proofs.Common.{rules, arith, sym, ◌∙◌, ap, ◌≡◌, ℕ, ◌+◌, ◌<◌, List, length, drop, map, zero-add, add-zero}
use Rattle.std.proofs.lemmas.List.{drop_all}
use Rattle.spdx_requirement.specs.Items.{Requirement, requirement_of}
use Rattle.spdx_parser.specs.declared.node.ExprNode.{ExprNode}
use Rattle.spdx_evaluation.specs.Postfix.{tree_in}
use Rattle.spdx_evaluation.specs.Requirements.{requirements_in}
use Rattle.spdx_evaluation.proofs.Nodes.{requirement_at, requirements_of_tree}
use Rattle.spdx_minimize.proofs.Asking.{each_leaf}
use Rattle.spdx_why.specs.Least.{first_candidate}
use Rattle.spdx_why.proofs.Chosen.{found_first}
use Rattle.spdx_why.proofs.Listing.{nodes_from}
use Rattle.spdx_why.proofs.firsts.first_same.Goals as goal

pub loop-node-init : goal.loop-node-init
loop-node-init c = record {
  so_far = zero-add _;
  left = omega (arith, each_leaf c.args.nodes.now (tree_in c.args.nodes.now) c.requires.tree, c.requires.each);
}

pub returns-then-are_same_requirement : goal.returns-then-are_same_requirement
returns-then-are_same_requirement c =
    let nodes = c.args.nodes.now in
    let cs = c.args.candidates.now in
    let i = c.loop-node.node-index in
    let r = requirement_of c.args.requirement.now in
    let all = requirements_of_tree nodes (tree_in nodes) c.requires.tree in
    let tail = nodes_from nodes i _ (ExprNode.Req c.in-Req.other) c.loop-node-test.true (sym c.node-item.is ∙ c.in-Req.is) in
    let lt : c.loop-node.number < length cs = omega (arith, c.loop-node.invariant.left, ap (λ (z : List ExprNode). length (requirements_in z)) tail) in
    let here : first_candidate (map requirement_at (requirements_in (drop i nodes))) (drop c.loop-node.number cs) r ≡ 0 =
    ap (λ (z : List ExprNode). first_candidate (map requirement_at (requirements_in z)) (drop c.loop-node.number cs) r) tail
    ∙ found_first c.in-Req.other (drop (i + 1) nodes) cs c.loop-node.number r lt c.if-candidates-number.true (sym c.are_same_requirement.ensures.test ∙ c.if-are_same_requirement.true) in
    sym (add-zero c.loop-node.number) ∙ sym (ap (λ (n : ℕ). c.loop-node.number + n) here) ∙ c.loop-node.invariant.so_far ∙ ap (λ (z : List Requirement). first_candidate z cs r) all

pub returns : goal.returns
returns c =
    let nodes = c.args.nodes.now in
    let cs = c.args.candidates.now in
    let r = requirement_of c.args.requirement.now in
    let all = requirements_of_tree nodes (tree_in nodes) c.requires.tree in
    let none : drop c.loop-node.node-index nodes ≡ _ = drop_all c.loop-node.node-index nodes (search rules) in
    let here : first_candidate (map requirement_at (requirements_in (drop c.loop-node.node-index nodes))) (drop c.loop-node.number cs) r ≡ 0 =
    ap (λ (z : List ExprNode). first_candidate (map requirement_at (requirements_in z)) (drop c.loop-node.number cs) r) none in
    sym (add-zero c.loop-node.number) ∙ sym (ap (λ (n : ℕ). c.loop-node.number + n) here) ∙ c.loop-node.invariant.so_far ∙ ap (λ (z : List Requirement). first_candidate z cs r) all
