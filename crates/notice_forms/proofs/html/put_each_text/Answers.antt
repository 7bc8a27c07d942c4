use Rattle.std.proofs.Common.{ℕ, List, ◌++◌, ◌∙◌, ap, refl, get_or, arith}
use Rattle.std.proofs.lemmas.List.{length-map, get_or-map}
use Rattle.notice_forms.specs.Told.{Named, named, with_bytes}
use Rattle.notice_forms.specs.Markup.{html_text}
use Rattle.notice_forms.proofs.Numbering.{no_text, text_pushed}
use Rattle.notice_forms.proofs.html.put_each_text.Goals as goal

pub returns-in_default-clause-err : goal.returns-in_default-clause-err
returns-in_default-clause-err c =
    let texts = c.args.texts.now in
    let k = c.loop-number.number in
    let t : Named = named (get_or texts k no_text) in
    (k, t, omega (arith, length-map texts named), get_or-map named texts k no_text t c.loop-number-test.true, (refl, c.in_default.ensures.cases.0))

pub loop-number-preserved : goal.loop-number-preserved
loop-number-preserved c =
    let text = get_or c.args.texts.now c.loop-number.number no_text in
    let words : List ℕ → List ℕ = λ b. c.loop-number.page.items ++ html_text c.loop-number.number (with_bytes text b) in
    text_pushed html_text c.args.texts.now c.loop-number.number c.loop-number-test.true _ _ _ c.loop-number.invariant (c.in_ok-put_folded.ensures ∙ ap words c.in-Ok.ensures.cases.0)
