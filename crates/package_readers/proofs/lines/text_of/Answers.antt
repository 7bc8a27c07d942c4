use Rattle.std.proofs.Common.{◌≡◌, ℕ, ◌+◌, ap, ◌∙◌, count_by, take, ◌==◌}
use Rattle.std.specs.Str.{IsUtf8}
use Rattle.std.specs.Str.Lossy.{utf8_valid_len}
use Rattle.std.proofs.lemmas.Str.{is_utf8-from_IsUtf8}
use Rattle.package_items.specs.Rows.{not_utf8}
use Rattle.package_readers.proofs.Texts.{no_text}
use Rattle.package_readers.proofs.lines.text_of.Goals as goal

pub returns-in-Ok-clause-ok : goal.returns-in-Ok-clause-ok
returns-in-Ok-clause-ok c = (c.in-Ok.ensures.cases.0, is_utf8-from_IsUtf8 c.args.bytes.now c.in-Ok.ensures.cases.1)

pub returns-in-Err-clause-err : goal.returns-in-Err-clause-err
returns-in-Err-clause-err c =
    let none : IsUtf8 c.args.bytes.now → ⊥ = c.in-Err.ensures.cases.0 in
    let end : c.valid_up_to.result ≡ utf8_valid_len c.args.bytes.now = c.valid_up_to.ensures ∙ c.in-Err.ensures.valid_len in
    let line = λ (n : ℕ). not_utf8 (n + 1) in
    let count = λ (n : ℕ). count_by (λ (b : ℕ). b == 10) (take n c.args.bytes.now) in
    (ap line (c.newlines-line.ensures.value ∙ ap count end), no_text c.args.bytes.now none)
