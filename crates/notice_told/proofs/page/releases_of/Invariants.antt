use Rattle.std.proofs.Common.{◌≡◌, map, take}
use Rattle.license_notice.specs.Notices.{line_of}
use Rattle.notice_told.specs.Page.{line_of_package}
use Rattle.notice_told.proofs.page.releases_of.Given as goal

abbrev pub invariant-loop-one : goal.invariant-loop-one
invariant-loop-one l = map line_of l.releases.items ≡ map line_of_package (take l.one-index l.packages)
