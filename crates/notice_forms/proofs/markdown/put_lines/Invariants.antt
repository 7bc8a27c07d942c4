use Rattle.std.proofs.Common.{◌≡◌, ◌++◌, map, take, flat_map}
use Rattle.license_notice.specs.Notices.{line_of}
use Rattle.notice_forms.specs.Markdown.{markdown_line}
use Rattle.notice_forms.proofs.markdown.put_lines.Given as goal

abbrev pub invariant-loop-release : goal.invariant-loop-release
invariant-loop-release l = l.page.items ≡ l.initial.page.items ++ flat_map markdown_line (map line_of (take l.release-index l.packages))
