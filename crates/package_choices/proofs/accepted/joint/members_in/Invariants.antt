use Rattle.std.proofs.Common.{◌≡◌, map, take}
use Rattle.spdx_requirement.specs.Items.{requirement_of}
use Rattle.package_choices.specs.Accepted.{those_in}
use Rattle.package_choices.proofs.accepted.joint.members_in.Given as goal

abbrev pub invariant-loop-licensee : goal.invariant-loop-licensee
invariant-loop-licensee l = l.members.items ≡ those_in (map requirement_of l.some) (take l.licensee-index l.accepted)
