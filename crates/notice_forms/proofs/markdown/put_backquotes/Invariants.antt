use Rattle.std.proofs.Common.{◌≡◌, ◌++◌, replicate}
use Rattle.notice_forms.proofs.markdown.put_backquotes.Given as goal

abbrev pub invariant-loop : goal.invariant-loop
invariant-loop l = l.page.items ≡ l.initial.page.items ++ replicate l.counter 96
