use Rattle.std.proofs.Common.{◌≡◌, ◌++◌, drop, map}
use Rattle.spdx_evaluation.specs.Requirements.{requirements_in}
use Rattle.spdx_evaluation.proofs.Nodes.{requirement_at}
use Rattle.package_choices.specs.Choice.{number_of}
use Rattle.package_choices.specs.Members.{shown}
use Rattle.package_choices.proofs.allowed.asking.numbers_of.Given as goal

abbrev pub invariant-loop-node : goal.invariant-loop-node
invariant-loop-node l =
    l.numbers.items ++ map (number_of (shown l.members)) (map requirement_at (requirements_in (drop l.node-index l.nodes)))
    ≡ map (number_of (shown l.members)) (map requirement_at (requirements_in l.nodes))
