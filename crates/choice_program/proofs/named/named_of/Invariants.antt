use Rattle.std.proofs.Common.{◌≡◌, map, take}
use Rattle.spdx_requirement.specs.Items.{requirement_of}
use Rattle.choice_program.specs.Named.{named, shown}
use Rattle.choice_program.proofs.named.named_of.Given as goal

abbrev pub invariant-loop-requirement : goal.invariant-loop-requirement
invariant-loop-requirement l = map shown l.all.items ≡ map named (map requirement_of (take l.requirement-index l.requirements))
