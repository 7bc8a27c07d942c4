use Rattle.std.proofs.Common.{◌≡◌, map, take}
use Rattle.license_notice.specs.declared.stands.Stand.{Stand}
use Rattle.license_notice.specs.Grouping.{line_in}
use Rattle.license_notice.specs.Notices.{line_of}
use Rattle.license_notice.specs.Stands.{row_of}
use Rattle.license_notice.proofs.groups.releases.Given as goal

abbrev pub invariant-loop-stand : goal.invariant-loop-stand
invariant-loop-stand l = map line_of l.releases.items ≡ map (λ (s : Stand). line_in (row_of s)) (take l.stand-index l.stands)
