use Rattle.std.proofs.Common.{◌≡◌, ℕ, List, Bor, map, sym, ap, ◌∙◌}
use Rattle.notice_texts.specs.Lacking as spec
use Rattle.notice_texts.proofs.LackLaws.{text_of, missing_exactly, unused_exactly, complete}
use Rattle.notice_texts.proofs.lacking.owed_texts.Goals as goal

pub returns-clause-missing_if : goal.returns-clause-missing_if
returns-clause-missing_if c name =
    let used = map text_of c.args.used.now in
    let files = map text_of c.args.files.now in
    let exact : map text_of c.in_ok-missing.missing.items ≡ spec.missing used files = c.in_ok-missing.ensures ∙ ap (λ (xs : List (Bor (List ℕ))). spec.without_text files (map text_of xs)) c.deref.ensures.value ∙ ap (spec.without_text files) c.in_ok-names.ensures in
    ap (λ ns. spec.is_among ns name) exact ∙ missing_exactly used files name

pub returns-clause-unused_if : goal.returns-clause-unused_if
returns-clause-unused_if c file =
    let used = map text_of c.args.used.now in
    let files = map text_of c.args.files.now in
    ap (λ ns. spec.is_among ns file) c.in_ok-unused.ensures ∙ unused_exactly used files file

pub returns-clause-complete : goal.returns-clause-complete
returns-clause-complete c none =
    let used = map text_of c.args.used.now in
    let files = map text_of c.args.files.now in
    let exact : map text_of c.in_ok-missing.missing.items ≡ spec.missing used files = c.in_ok-missing.ensures ∙ ap (λ (xs : List (Bor (List ℕ))). spec.without_text files (map text_of xs)) c.deref.ensures.value ∙ ap (spec.without_text files) c.in_ok-names.ensures in
    complete used files (sym exact ∙ none)
