use Rattle.std.proofs.Common.{◌≡◌, ◌≤◌, ◌<◌, ◌∙◌, sym, ap, subst, ℕ, List, [], ◌∷◌, length, map, All, arith}
use Rattle.std.specs.Prelude.{not}
use Rattle.std.specs.List.{find}
use Rattle.std.proofs.lemmas.List.{length-map}
use Rattle.spdx_requirement.specs.Items.{Requirement}
use Rattle.spdx_parser.specs.declared.node.ExprNode.{ExprNode}
use Rattle.spdx_parser.specs.Tree.{leaves}
use Rattle.spdx_evaluation.specs.Postfix.{tree_in}
use Rattle.spdx_evaluation.specs.Requirements.{requirements_in}
use Rattle.spdx_evaluation.specs.Truth.{truth_of}
use Rattle.spdx_evaluation.proofs.Nodes.{requirement_at, requirements_of_tree}
use Rattle.selections.specs.Sets.{is_in, sets_in}
use Rattle.spdx_meaning.proofs.Meaning.{tests_are}
use Rattle.spdx_meaning.proofs.Marks.{places_few}
use Rattle.spdx_meaning.proofs.asks.first_unmet.Goals as goal

few_requirements : (nodes : List ExprNode) → length (requirements_in nodes) ≤ length nodes
few_requirements [] = omega arith
few_requirements (ExprNode.Req r ∷ nodes) = omega (arith, few_requirements nodes)
few_requirements (ExprNode.Op o ∷ nodes) = omega (arith, few_requirements nodes)

pub first_failing-found-requires-clause-within : goal.first_failing-found-requires-clause-within
first_failing-found-requires-clause-within c =
    let nodes = c.args.one.now in
    let qs = leaves (tree_in nodes) in
    let rs = leaves (tree_in c.args.other.now) in
    let marks = c.as_mut_slice-marks.result.now in
    let each : length qs ≡ length (requirements_in nodes) =
    ap length (sym (requirements_of_tree nodes (tree_in nodes) c.requires.tree)) ∙ length-map (requirements_in nodes) requirement_at in
    let more : length qs < length marks = omega (arith, each, few_requirements nodes, c.in_ok-marks.ensures.len, ap length c.as_mut_slice-marks.ensures.value) in
    subst (λ (ks : List ℕ). All (λ k. k < length marks) ks) (sym (c.as_slice.ensures.value ∙ c.in_ok-places.ensures)) (places_few qs rs (length marks) more)

pub returns : goal.returns
returns c =
    let t = tree_in c.args.one.now in
    let u = tree_in c.args.other.now in
    c.first_failing-found.ensures
    ∙ ap (λ (z : List ℕ). find (λ s. not (truth_of u (map (is_in s) z))) (sets_in c.args.sets.now)) (c.as_slice.ensures.value ∙ c.in_ok-places.ensures)
    ∙ tests_are t u (sets_in c.args.sets.now)
