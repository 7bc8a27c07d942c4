use Rattle.std.proofs.Common.{◌≡◌, ◌++◌, map, take}
use Rattle.notice_forms.specs.Told.{named}
use Rattle.notice_forms.specs.Numbered.{numbered}
use Rattle.notice_forms.specs.Markup.{html_text_entry}
use Rattle.notice_forms.proofs.html.put_text_entries.Given as goal

abbrev pub invariant-loop-number : goal.invariant-loop-number
invariant-loop-number l = l.page.items ≡ l.initial.page.items ++ numbered html_text_entry 0 (map named (take l.number l.texts))
