use Rattle.std.proofs.Common.{◌≡◌, List, map, take}
use Rattle.std.specs.Borrow.{Bor}
use Rattle.license_notice.specs.declared.packages.Release.{Release}
use Rattle.license_notice.specs.Notices.{line_of, bands_of}
use Rattle.license_notice.specs.Rows.{Band}
use Rattle.notice_forms.proofs.places.group_places.Given as goal

abbrev pub invariant-loop-group : goal.invariant-loop-group
invariant-loop-group l =
    map (λ (rs : Bor (List Release)). map line_of rs.now) l.lists.items ≡ map (λ (b : Band). b.lines) (bands_of (take l.group-index l.groups))
