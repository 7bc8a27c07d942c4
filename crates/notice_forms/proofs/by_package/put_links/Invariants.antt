use Rattle.std.proofs.Common.{◌≡◌, ◌++◌, take}
use Rattle.license_notice.specs.Notices.{bands_of, names_of}
use Rattle.notice_forms.specs.Found.{links_at}
use Rattle.notice_forms.proofs.by_package.put_links.Given as goal

abbrev pub invariant-loop-place : goal.invariant-loop-place
invariant-loop-place l = l.page.items ≡ l.initial.page.items ++ links_at (names_of (bands_of l.groups)) (take l.place-index l.places)
