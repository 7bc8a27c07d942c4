use Rattle.std.proofs.Common.{◌≡◌, ◌++◌, drop, length, map}
use Rattle.spdx_evaluation.specs.Requirements.{requirements_in}
use Rattle.spdx_evaluation.proofs.Nodes.{requirement_at}
use Rattle.spdx_meaning.specs.Placed.{numbered, entry_of}
use Rattle.spdx_meaning.proofs.places.each_placed.Given as goal

abbrev pub invariant-loop-node : goal.invariant-loop-node
invariant-loop-node l =
    map entry_of l.placed.items ++ numbered (length l.placed.items) (map requirement_at (requirements_in (drop l.node-index l.nodes)))
    ≡ numbered 0 (map requirement_at (requirements_in l.nodes))
