use Rattle.std.proofs.Common.{◌≡◌, map, take}
use Rattle.license_notice.specs.Notices.{line_of, bands_of}
use Rattle.license_notice.specs.Places.{lines_in}
use Rattle.license_notice.proofs.once.packages_in.Given as goal

abbrev pub invariant-loop-group : goal.invariant-loop-group
invariant-loop-group l = map line_of l.all.items ≡ lines_in (bands_of (take l.group-index l.groups))
