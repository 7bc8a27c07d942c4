use Rattle.std.proofs.Common.{◌≡◌, map, take, flat_map}
use Rattle.license_notice.specs.Stands.{row_of}
use Rattle.license_notice.specs.Wanted.{rows_of}
use Rattle.license_notice.proofs.stands.every_stand.Given as goal

abbrev pub invariant-loop-package : goal.invariant-loop-package
invariant-loop-package l = map row_of l.stands.items ≡ flat_map rows_of (take l.package-index l.packages)
