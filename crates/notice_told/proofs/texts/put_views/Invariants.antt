use Rattle.std.proofs.Common.{◌≡◌, ◌++◌, map, take}
use Rattle.notice_forms.specs.Told.{named}
use Rattle.notice_told.specs.Texts.{page_named}
use Rattle.notice_told.proofs.texts.put_views.Given as goal

abbrev pub invariant-loop-text : goal.invariant-loop-text
invariant-loop-text l = map named l.views.items ≡ map named l.initial.views.items ++ map page_named (take l.text-index l.texts)
