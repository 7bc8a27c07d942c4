use Rattle.std.proofs.Common.{◌≡◌, ◌+◌, drop}
use Rattle.spdx_requirement.specs.Items.{requirement_of}
use Rattle.package_choices.specs.Choice.{number_of}
use Rattle.package_choices.specs.Members.{shown}
use Rattle.package_choices.proofs.allowed.asking.number_of.Given as goal

abbrev pub invariant-loop-number : goal.invariant-loop-number
invariant-loop-number l = l.number + number_of (shown (drop l.number l.members)) (requirement_of l.requirement) ≡ number_of (shown l.members) (requirement_of l.requirement)
