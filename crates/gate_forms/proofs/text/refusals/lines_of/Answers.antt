use Rattle.std.proofs.Common.{◌≡◌, [], map, sym, ap, subst, ◌∙◌}
use Rattle.std.specs.Prelude.{IfOk, string_bytes}
use Rattle.gate_forms.specs.Refusals.{told_text, refusals_from, refusals_text}
use Rattle.gate_forms.specs.Tellings.{refusals_told}
use Rattle.gate_forms.proofs.RefusalLaws.{told_from, refusals_same}
use Rattle.gate_forms.proofs.text.refusals.lines_of.Goals as goal

pub returns : goal.returns
returns c =
    let all = c.in_ok-all.all.items in
    let told = told_from c.args.style all (c.in_ok-all.ensures.words ∙ ap (map (told_text c.args.style)) (sym c.in_ok-all.ensures.reports)) in
    let said : refusals_told c.args.style [] all ≡ refusals_text c.args.style c.args.reports.now =
    refusals_same c.args.style [] all tt told ∙ ap (refusals_from c.args.style []) c.in_ok-all.ensures.reports in
    let there : refusals_told c.args.style [] c.deref.result.now ≡ refusals_text c.args.style c.args.reports.now = rw c.deref.ensures.value said in
    subst (λ z. IfOk c.refusals.result (λ lines. string_bytes lines ≡ z)) there c.refusals.ensures
