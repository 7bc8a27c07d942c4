use Rattle.std.proofs.Common.{◌≡◌, ◌++◌, drop, map}
use Rattle.spdx_requirement.specs.Items.{requirement_of}
use Rattle.spdx_evaluation.specs.Requirements.{requirements_in}
use Rattle.spdx_evaluation.proofs.Nodes.{requirement_at}
use Rattle.spdx_meaning.specs.Ranks.{rank_in}
use Rattle.spdx_meaning.proofs.text.ranking.ranks_of.Given as goal

abbrev pub invariant-loop-node : goal.invariant-loop-node
invariant-loop-node l =
    l.ranks.items ++ map (rank_in (map requirement_of l.ordered)) (map requirement_at (requirements_in (drop l.node-index l.nodes)))
    ≡ map (rank_in (map requirement_of l.ordered)) (map requirement_at (requirements_in l.nodes))
