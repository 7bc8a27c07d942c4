use Rattle.std.proofs.Common.{◌≡◌, ◌++◌, map, take}
use Rattle.license_notice.specs.Notices.{line_of}
use Rattle.license_notice.proofs.once.put_releases.Given as goal

abbrev pub invariant-loop-release : goal.invariant-loop-release
invariant-loop-release l = map line_of l.all.items ≡ map line_of l.initial.all.items ++ map line_of (take l.release-index l.releases)
