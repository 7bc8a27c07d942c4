use Rattle.std.proofs.Common.{◌≡◌, ◌++◌, drop, map}
use Rattle.spdx_parser.specs.Tree.{leaves}
use Rattle.spdx_evaluation.specs.Postfix.{tree_in}
use Rattle.spdx_evaluation.specs.Requirements.{requirements_in}
use Rattle.spdx_evaluation.proofs.Nodes.{requirement_at}
use Rattle.spdx_meaning.specs.Places.{place_in}
use Rattle.spdx_meaning.proofs.places.places_among.Given as goal

abbrev pub invariant-loop-node : goal.invariant-loop-node
invariant-loop-node l =
    l.places.items ++ map (place_in (leaves (tree_in l.nodes))) (map requirement_at (requirements_in (drop l.node-index l.others)))
    ≡ map (place_in (leaves (tree_in l.nodes))) (map requirement_at (requirements_in l.others))
