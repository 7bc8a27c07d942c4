use Rattle.std.proofs.Common.{◌≡◌, ◌++◌, map, take, flat_map}
use Rattle.license_notice.specs.Notices.{line_of, bands_of}
use Rattle.notice_forms.specs.Markup.{html_package}
use Rattle.notice_forms.proofs.by_package.put_packages.Given as goal

abbrev pub invariant-loop-release : goal.invariant-loop-release
invariant-loop-release l =
    l.page.items ≡ l.initial.page.items ++ flat_map (html_package (bands_of l.groups)) (map line_of (take l.release-index l.packages))
