use Rattle.std.proofs.Common.{◌≡◌}
use Rattle.spdx_requirement.specs.Versions.{parts, without_version}
use Rattle.spdx_licensee.specs.Version.{same_parts}
use Rattle.spdx_licensee.specs.Families.{family_left}
use Rattle.spdx_licensee.proofs.version.same_family.Given as goal

abbrev pub invariant-loop-part : goal.invariant-loop-part
invariant-loop-part l = same_parts (family_left l.part-iterator) (family_left l.others) ≡ same_parts (without_version (parts l.a)) (without_version (parts l.b))
