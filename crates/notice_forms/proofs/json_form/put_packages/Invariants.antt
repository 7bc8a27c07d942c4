use Rattle.std.proofs.Common.{◌≡◌, ◌++◌, flat_map, take}
use Rattle.notice_forms.specs.Told.{told}
use Rattle.notice_forms.proofs.Documents.{package_tokens_of}
use Rattle.notice_forms.proofs.json_form.put_packages.Given as goal

abbrev pub invariant-loop-release : goal.invariant-loop-release
invariant-loop-release l =
    (l.writer.before ≡ l.initial.writer.before) × (l.writer.tokens ≡ l.initial.writer.tokens ++ flat_map (package_tokens_of (told l.shown)) (take l.release-index l.shown.packages.now))
