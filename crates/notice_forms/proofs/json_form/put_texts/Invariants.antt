use Rattle.std.proofs.Common.{◌≡◌, ◌++◌, flat_map, take}
use Rattle.notice_forms.proofs.Documents.{hashed_tokens}
use Rattle.notice_forms.proofs.json_form.put_texts.Given as goal

abbrev pub invariant-loop-text : goal.invariant-loop-text
invariant-loop-text l =
    (l.writer.before ≡ l.initial.writer.before) × (l.writer.tokens ≡ l.initial.writer.tokens ++ flat_map hashed_tokens (take l.text-index l.texts))
