use Rattle.std.proofs.Common.{◌≡◌, ◌++◌, take}
use Rattle.license_notice.specs.Notices.{bands_of, names_of}
use Rattle.notice_forms.specs.Found.{texts_at}
use Rattle.notice_forms.proofs.json_form.put_requirements.Given as goal

abbrev pub invariant-loop-place : goal.invariant-loop-place
invariant-loop-place l =
    (l.writer.before ≡ l.initial.writer.before) × (l.writer.tokens ≡ l.initial.writer.tokens ++ texts_at (names_of (bands_of l.groups)) (take l.place-index l.places))
