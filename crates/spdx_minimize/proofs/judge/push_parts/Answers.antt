use Rattle.std.proofs.Common.{◌≡◌, ◌<◌, ◌+◌, ◌∙◌, ap, sym, length, map, ◌++◌, ◌∷◌, List, ℕ, drop, [], get_or}
use Rattle.std.proofs.lemmas.List.{append-nil, append_assoc, drop_all, drop_more}
use Rattle.spdx_requirement.specs.Items.{Requirement, requirement_of}
use Rattle.spdx_parser.specs.declared.node.ExprNode.{ExprNode}
use Rattle.spdx_evaluation.specs.Postfix.{tree_in}
use Rattle.spdx_evaluation.specs.Requirements.{nows}
use Rattle.spdx_minimize.specs.Places.{places, places_in, part_of}
use Rattle.spdx_minimize.proofs.Places.{places_of_tree, one_part, each_within}
use Rattle.spdx_minimize.proofs.judge.push_parts.Goals as goal
use Rattle.spdx_minimize.proofs.judge.push_parts.Goals.{in-Req+in_ok-push_places+in_ok-push, in_default}

-- the places of the requirements from i on, where i holds n
places_from : (ms : List Requirement) (nodes : List ExprNode) (i : ℕ) (d n : ExprNode) → i < length nodes → d ≡ get_or nodes i d → d ≡ n → places_in ms (drop i nodes) ≡ places_in ms (n ∷ drop (i + 1) nodes)
places_from ms nodes i d n lt at is = ap (places_in ms) (drop_more nodes i d lt ∙ ap (λ (z : ExprNode). z ∷ drop (i + 1) nodes) (sym at ∙ is))

pub loop-node-preserved : goal.loop-node-preserved
loop-node-preserved c =
    let ms = nows c.args.members.now in
    let nodes = c.args.nodes.now in
    let i = c.loop-node.node-index in
    elim c.match-node.branch [
      | in-Req+in_ok-push_places+in_ok-push w ↦
          let longer = w.in_ok-push_places.ensures in
          let added = w.in_ok-push.ensures.ok in
          let one = one_part c.loop-node.places.items _ _ c.loop-node.parts.items _ _ longer added w.len-start.ensures.value w.len-end.ensures.value c.loop-node.invariant.within in
          let here = places_from ms nodes i _ (ExprNode.Req w.in-Req.requirement) c.loop-node-test.true c.node-item.is w.in-Req.is in
          rw (w.parts-is, w.places-is) record {
            met =
                ap (λ (z : List (List ℕ)). z ++ places_in ms (drop (i + 1) nodes)) one
                ∙ append_assoc (map (part_of c.loop-node.places.items) c.loop-node.parts.items) (places ms (requirement_of w.in-Req.requirement.req) ∷ []) (places_in ms (drop (i + 1) nodes))
                ∙ ap (λ (z : List (List ℕ)). map (part_of c.loop-node.places.items) c.loop-node.parts.items ++ z) (sym here)
                ∙ c.loop-node.invariant.met;
            within = each_within c.loop-node.places.items _ _ c.loop-node.parts.items _ _ longer added w.len-start.ensures.value w.len-end.ensures.value c.loop-node.invariant.within;
          }
      | in_default w ↦
          let here = places_from ms nodes i _ (ExprNode.Op w.in_default.field-0) c.loop-node-test.true c.node-item.is w.in_default.is in
          rw (w.parts-is, w.places-is) record {
            met = ap (λ (z : List (List ℕ)). map (part_of c.loop-node.places.items) c.loop-node.parts.items ++ z) (sym here) ∙ c.loop-node.invariant.met;
            within = c.loop-node.invariant.within;
          }
    ]

pub returns-clause-met : goal.returns-clause-met
returns-clause-met c =
    let ms = nows c.args.members.now in
    let nodes = c.args.nodes.now in
    let found = map (part_of c.loop-node.places.items) c.loop-node.parts.items in
    sym (append-nil found)
    ∙ ap (λ (z : List ExprNode). found ++ places_in ms z) (sym (drop_all c.loop-node.node-index nodes c.loop-node-test.false))
    ∙ c.loop-node.invariant.met
    ∙ ap (λ (z : List (List ℕ)). map (part_of c.args.places.now.items) c.args.parts.now.items ++ z) (places_of_tree ms nodes (tree_in nodes) c.requires.postfix)
