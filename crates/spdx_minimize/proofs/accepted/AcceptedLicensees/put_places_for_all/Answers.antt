use Rattle.std.proofs.Common.{rules, ◌∙◌, sym, ap, ℕ, List, ◌++◌}
use Rattle.std.specs.List.{flat_map}
use Rattle.std.proofs.lemmas.List.{append-nil, drop_all}
use Rattle.std.proofs.lemmas.List.Folds.{flat_map-map}
use Rattle.spdx_requirement.specs.Items.{requirement_of}
use Rattle.spdx_parser.specs.declared.node.ExprNode.{ExprNode}
use Rattle.spdx_evaluation.specs.Postfix.{tree_in}
use Rattle.spdx_evaluation.specs.Requirements.{requirements_in}
use Rattle.spdx_evaluation.proofs.Nodes.{requirement_at, requirements_of_tree}
use Rattle.spdx_minimize.specs.AcceptedModel.{licensees_of}
use Rattle.spdx_minimize.specs.FirstPlaces.{places_for}
use Rattle.spdx_minimize.proofs.accepted.AcceptedLicensees.put_places_for_all.Goals as goal

pub returns-clause-places : goal.returns-clause-places
returns-clause-places c =
    let places = places_for (licensees_of c.args.self.now) in
    let nodes = c.args.nodes.now in
    let found = c.loop-node.places.items in
    sym (append-nil found)
    ∙ ap (λ (z : List ExprNode). found ++ flat_map (λ r. places (requirement_of r.req)) (requirements_in z)) (sym (drop_all c.loop-node.node-index nodes (search rules)))
    ∙ c.loop-node.invariant.places
    ∙ ap (λ (z : List ℕ). c.args.places.now.items ++ z)
    (sym (flat_map-map places requirement_at (requirements_in nodes)) ∙ ap (flat_map places) (requirements_of_tree nodes (tree_in nodes) c.requires))
