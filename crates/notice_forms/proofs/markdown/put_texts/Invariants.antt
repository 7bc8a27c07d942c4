use Rattle.std.proofs.Common.{◌≡◌, ◌++◌, map, take, flat_map}
use Rattle.notice_forms.specs.Told.{named}
use Rattle.notice_forms.specs.Markdown.{markdown_text}
use Rattle.notice_forms.proofs.markdown.put_texts.Given as goal

abbrev pub invariant-loop-text : goal.invariant-loop-text
invariant-loop-text l = l.page.items ≡ l.initial.page.items ++ flat_map markdown_text (map named (take l.text-index l.texts))
