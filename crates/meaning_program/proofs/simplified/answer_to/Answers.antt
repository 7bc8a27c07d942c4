use Rattle.std.proofs.Common.{◌≡◌, Err, Ok, ap, rules, string_bytes}
use Rattle.std.proofs.lemmas.Str.{is_utf8-from_IsUtf8}
use Rattle.spdx_meaning.specs.Reading.{IsMeaningless, IsMeaningOf}
use Rattle.meaning_program.specs.Troubles.{why_text}
use Rattle.meaning_program.proofs.Lining.{not_text, of_read, of_some}
use Rattle.meaning_program.proofs.simplified.answer_to.Goals as goal

pub returns-in_default : goal.returns-in_default
returns-in_default c =
    of_some c.args.catalogue.now c.args.is_lax c.args.line.now _ _ c.is_empty.result c.is_empty.ensures c.if-is_empty.false
    (not_text c.args.line.now c.in_default.ensures.cases.0) (ap Err c.in_ok-from_str.ensures.ok)

pub returns-in-Ok-meaning_of : goal.returns-in-Ok-meaning_of
returns-in-Ok-meaning_of c =
    let rows = c.args.catalogue.now in
    let text = string_bytes c.in-Ok-meaning_of.meaning in
    let means : IsMeaningOf rows c.mode_by.result c.as_str.result.now text = search rules in
    of_some rows c.args.is_lax c.args.line.now _ _ c.is_empty.result c.is_empty.ensures c.if-is_empty.false
    (is_utf8-from_IsUtf8 c.args.line.now c.in-Ok.ensures.cases.1)
    (of_read rows c.args.is_lax c.args.line.now c.in-Ok.text.now _ c.as_str.result.now c.mode_by.result (Ok text) c.in-Ok.ensures.cases.0 c.in_ok-read.ensures c.as_str.ensures.value c.mode_by.ensures means)

pub returns-in-Err-Refused : goal.returns-in-Err-Refused
returns-in-Err-Refused c =
    let rows = c.args.catalogue.now in
    let text = string_bytes c.in_ok-why_of-in-Err-Refused.field-0 in
    let unmeant = c.in-Err-Refused.unmeant in
    let none : IsMeaningless rows c.mode_by.result c.as_str.result.now unmeant = search rules in
    let why : text ≡ why_text unmeant = search rules in
    of_some rows c.args.is_lax c.args.line.now _ _ c.is_empty.result c.is_empty.ensures c.if-is_empty.false
    (is_utf8-from_IsUtf8 c.args.line.now c.in-Ok.ensures.cases.1)
    (of_read rows c.args.is_lax c.args.line.now c.in-Ok.text.now _ c.as_str.result.now c.mode_by.result (Err text) c.in-Ok.ensures.cases.0 c.in_ok-read.ensures c.as_str.ensures.value c.mode_by.ensures (unmeant, none, why))
