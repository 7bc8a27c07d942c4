use Rattle.std.proofs.Common.{◌≡◌, map, take}
use Rattle.notice_forms.specs.Hashed.{hashed, with_hash}
use Rattle.notice_forms.specs.Told.{named}
use Rattle.notice_forms.proofs.json_form.all_hashed.Given as goal

abbrev pub invariant-loop-text : goal.invariant-loop-text
invariant-loop-text l = map hashed l.all.items ≡ map with_hash (map named (take l.text-index l.texts))
