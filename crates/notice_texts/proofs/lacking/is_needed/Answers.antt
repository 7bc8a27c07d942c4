use Rattle.std.proofs.Common.{◌≡◌, Some, None, sym, ◌∙◌}
use Rattle.notice_texts.specs.Stems.{stem}
use Rattle.notice_texts.proofs.LackLaws.{needed_itself, needed_stem, needed_none}
use Rattle.notice_texts.proofs.lacking.is_needed.Goals as goal

pub returns-then-is_in : goal.returns-then-is_in
returns-then-is_in c names has =
    sym (needed_itself names c.args.file.now.now (sym (c.is_in.ensures names has) ∙ c.if-is_in.true))

pub returns-in-Some : goal.returns-in-Some
returns-in-Some c names has =
    let stemmed : stem c.args.file.now.now ≡ Some c.in-Some.name.now = sym c.in-Some.ensures in
    let out = sym (c.is_in.ensures names has) ∙ c.if-is_in.false in
    c.is_in-in-Some.ensures names has ∙ sym (needed_stem names c.args.file.now.now c.in-Some.name.now out stemmed)

pub returns-in-None : goal.returns-in-None
returns-in-None c names has =
    let stemmed : stem c.args.file.now.now ≡ None = sym c.in-None.ensures in
    sym (needed_none names c.args.file.now.now (sym (c.is_in.ensures names has) ∙ c.if-is_in.false) stemmed)
