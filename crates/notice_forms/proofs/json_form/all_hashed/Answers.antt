use Rattle.std.proofs.Common.{refl, get_or, arith}
use Rattle.std.proofs.lemmas.List.{length-map, get_or-map}
use Rattle.notice_forms.specs.Told.{Named, named}
use Rattle.notice_forms.proofs.Numbering.{no_text}
use Rattle.notice_forms.proofs.json_form.all_hashed.Goals as goal

pub returns-in_default-clause-err : goal.returns-in_default-clause-err
returns-in_default-clause-err c =
    let texts = c.args.texts.now in
    let k = c.loop-text.text-index in
    let t : Named = named (get_or texts k no_text) in
    (k, t, omega (arith, length-map texts named), get_or-map named texts k no_text t c.loop-text-test.true, (refl, c.in_default.ensures.cases.0))
