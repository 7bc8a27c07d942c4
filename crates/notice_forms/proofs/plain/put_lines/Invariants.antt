use Rattle.std.proofs.Common.{◌≡◌, ◌++◌, map, take, flat_map}
use Rattle.license_notice.specs.Notices.{line_of}
use Rattle.notice_forms.specs.Plain.{plain_line}
use Rattle.notice_forms.proofs.plain.put_lines.Given as goal

abbrev pub invariant-loop-release : goal.invariant-loop-release
invariant-loop-release l = l.page.items ≡ l.initial.page.items ++ flat_map plain_line (map line_of (take l.release-index l.packages))
