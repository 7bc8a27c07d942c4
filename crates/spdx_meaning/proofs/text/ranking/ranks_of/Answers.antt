use Rattle.std.proofs.Common.{rules, sym, ◌∙◌, ap, ◌≡◌, ℕ, List, [], ◌++◌, drop, map}
use Rattle.std.proofs.lemmas.List.{append-nil, drop_all}
use Rattle.spdx_requirement.specs.Items.{Requirement, requirement_of}
use Rattle.spdx_parser.specs.declared.node.ExprNode.{ExprNode}
use Rattle.spdx_parser.specs.Tree.{leaves}
use Rattle.spdx_evaluation.specs.Postfix.{tree_in}
use Rattle.spdx_evaluation.specs.Requirements.{requirements_in}
use Rattle.spdx_evaluation.proofs.Nodes.{requirement_at, requirements_of_tree}
use Rattle.spdx_meaning.specs.Ranks.{rank_in}
use Rattle.spdx_meaning.proofs.RanksIn.{ranks_same}
use Rattle.spdx_meaning.proofs.text.ranking.ranks_of.Goals as goal

alike : (f g : Requirement → ℕ) → ((r : Requirement) → f r ≡ g r) → (rs : List Requirement) → map f rs ≡ map g rs
alike f g same rs = λ i. map (λ r. same r i) rs

pub returns : goal.returns
returns c =
    let nodes = c.args.nodes.now in
    let t = tree_in nodes in
    let os = map requirement_of c.args.ordered.now in
    let ranks = c.loop-node.ranks.items in
    let none : drop c.loop-node.node-index nodes ≡ [] = drop_all c.loop-node.node-index nodes (search rules) in
    sym (append-nil ranks)
    ∙ ap (λ (z : List ExprNode). ranks ++ map (rank_in os) (map requirement_at (requirements_in z))) (sym none)
    ∙ c.loop-node.invariant
    ∙ ap (λ (z : List Requirement). map (rank_in os) z) (requirements_of_tree nodes t c.requires.tree)
    ∙ alike (rank_in os) (rank_in (leaves t)) (ranks_same (leaves t) os c.requires.same) (leaves t)
