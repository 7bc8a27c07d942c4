use Rattle.std.proofs.Common.{◌≡◌, ◌++◌, drop, map}
use Rattle.spdx_requirement.specs.Items.{requirement_of}
use Rattle.spdx_minimize.specs.Choice.{chosen_of}
use Rattle.spdx_evaluation.specs.Requirements.{nows}
use Rattle.spdx_minimize.proofs.choice.chosen_requirements.Given as goal

abbrev pub invariant-loop-place : goal.invariant-loop-place
invariant-loop-place l = map requirement_of l.requirements.items ++ chosen_of (nows (drop l.place l.members)) (drop l.place l.selection) ≡ chosen_of (nows l.members) l.selection
