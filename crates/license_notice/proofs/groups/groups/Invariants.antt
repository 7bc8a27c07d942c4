use Rattle.std.proofs.Common.{◌≡◌, ◌++◌, map, length}
use Rattle.license_notice.specs.Grouping.{grouped}
use Rattle.license_notice.specs.Notices.{bands_of}
use Rattle.license_notice.specs.Stands.{row_of}
use Rattle.license_notice.proofs.groups.groups.Given as goal

abbrev pub invariant-loop-rest : goal.invariant-loop-rest
invariant-loop-rest l = bands_of l.groups.items ++ grouped (map row_of l.rest) ≡ grouped (map row_of l.stands)

abbrev pub decreases-loop-rest : goal.decreases-loop-rest
decreases-loop-rest l = length l.rest
