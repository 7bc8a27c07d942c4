use Rattle.std.proofs.Common.{◌≡◌, ◌++◌, drop, map}
use Rattle.spdx_requirement.specs.Items.{requirement_of}
use Rattle.spdx_evaluation.specs.Requirements.{requirements_in}
use Rattle.spdx_evaluation.proofs.Nodes.{requirement_at}
use Rattle.spdx_meaning.proofs.text.ranking.copies_of.Given as goal

abbrev pub invariant-loop-node : goal.invariant-loop-node
invariant-loop-node l =
    map requirement_of l.copies.items ++ map requirement_at (requirements_in (drop l.node-index l.nodes))
    ≡ map requirement_at (requirements_in l.nodes)
