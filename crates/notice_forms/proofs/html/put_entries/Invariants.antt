use Rattle.std.proofs.Common.{◌≡◌, ◌++◌, map, take}
use Rattle.license_notice.specs.Notices.{band_of}
use Rattle.notice_forms.specs.Numbered.{numbered}
use Rattle.notice_forms.specs.Markup.{html_entry}
use Rattle.notice_forms.proofs.html.put_entries.Given as goal

abbrev pub invariant-loop-number : goal.invariant-loop-number
invariant-loop-number l = l.page.items ≡ l.initial.page.items ++ numbered html_entry 0 (map band_of (take l.number l.groups))
