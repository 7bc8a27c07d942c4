use Rattle.std.proofs.Common.{◌≡◌, ◌++◌, flat_map, take}
use Rattle.notice_forms.proofs.Documents.{holder_tokens}
use Rattle.notice_forms.proofs.json_form.put_holders.Given as goal

abbrev pub invariant-loop-release : goal.invariant-loop-release
invariant-loop-release l =
    (l.writer.before ≡ l.initial.writer.before) × (l.writer.tokens ≡ l.initial.writer.tokens ++ flat_map holder_tokens (take l.release-index l.packages))
