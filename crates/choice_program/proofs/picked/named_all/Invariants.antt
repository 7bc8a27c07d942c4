use Rattle.std.proofs.Common.{◌≡◌, ◌++◌, map, drop}
use Rattle.spdx_evaluation.specs.Requirements.{requirements_in}
use Rattle.spdx_evaluation.proofs.Nodes.{requirement_at}
use Rattle.choice_program.specs.Named.{named, shown}
use Rattle.choice_program.proofs.picked.named_all.Given as goal

abbrev pub invariant-loop-node : goal.invariant-loop-node
invariant-loop-node l =
    map shown l.all.items ++ map named (map requirement_at (requirements_in (drop l.node-index l.nodes)))
    ≡ map named (map requirement_at (requirements_in l.nodes))
