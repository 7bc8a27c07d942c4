use Rattle.std.proofs.Common.{◌≡◌, ◌++◌, flat_map, take}
use Rattle.package_changes.proofs.Documents.{tokens_of}
use Rattle.package_changes.proofs.forms.json_form.put_list.Given as goal

abbrev pub invariant-loop-telling : goal.invariant-loop-telling
invariant-loop-telling l =
    (l.writer.before ≡ l.initial.writer.before) × (l.writer.tokens ≡ l.initial.writer.tokens ++ flat_map tokens_of (take l.telling-index l.tellings))
