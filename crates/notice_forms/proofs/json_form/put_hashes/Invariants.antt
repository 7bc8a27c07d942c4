use Rattle.std.proofs.Common.{◌≡◌, ◌++◌, map, take}
use Rattle.notice_forms.specs.Found.{texts_at}
use Rattle.notice_forms.specs.Hashed.{hash_in}
use Rattle.notice_forms.proofs.json_form.put_hashes.Given as goal

abbrev pub invariant-loop-place : goal.invariant-loop-place
invariant-loop-place l =
    (l.writer.before ≡ l.initial.writer.before) × (l.writer.tokens ≡ l.initial.writer.tokens ++ texts_at (map hash_in l.texts) (take l.place-index l.places))
