use Rattle.std.proofs.Common.{◌≡◌, ◌++◌, map, take}
use Rattle.notice_forms.specs.Told.{named}
use Rattle.notice_forms.specs.Numbered.{numbered}
use Rattle.notice_forms.specs.Markup.{html_text}
use Rattle.notice_forms.proofs.html.put_each_text.Given as goal

abbrev pub invariant-loop-number : goal.invariant-loop-number
invariant-loop-number l = l.page.items ≡ l.initial.page.items ++ numbered html_text 0 (map named (take l.number l.texts))
