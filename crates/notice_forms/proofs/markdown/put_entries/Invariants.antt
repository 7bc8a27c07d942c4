use Rattle.std.proofs.Common.{◌≡◌, ◌++◌, map, take, flat_map}
use Rattle.license_notice.specs.Notices.{band_of}
use Rattle.notice_forms.specs.Markdown.{markdown_entry}
use Rattle.notice_forms.proofs.markdown.put_entries.Given as goal

abbrev pub invariant-loop-group : goal.invariant-loop-group
invariant-loop-group l = l.page.items ≡ l.initial.page.items ++ flat_map markdown_entry (map band_of (take l.group-index l.groups))
