use Rattle.std.proofs.Common.{◌≡◌, Some, refl, sym, ◌∙◌, subst}
use Rattle.std.specs.Prelude.{slice_get}
use Rattle.std.proofs.lemmas.Option.{slice_get_read}
use Rattle.spdx_gate.specs.Reports.{IsOf}
use Rattle.spdx_gate.proofs.bench.is_at.Goals as goal

pub returns-in-Some-clause-told : goal.returns-in-Some-clause-told
returns-in-Some-clause-told c = λ h.
    let known = c.in-Some.ensures.lookup in
    record {
      judgement = c.in-Some.judgement.now;
      there = slice_get_read c.args.judgements.now _ c.args.place c.in-Some.judgement.now refl known.3.0 known.1;
      is_of = c.is_of.ensures.told h;
    }

pub returns-in-Some-clause-found : goal.returns-in-Some-clause-found
returns-in-Some-clause-found c = λ at.
    let known = c.in-Some.ensures.lookup in
    let there : slice_get c.args.judgements.now c.args.place ≡ Some c.in-Some.judgement.now =
    slice_get_read c.args.judgements.now _ c.args.place c.in-Some.judgement.now refl known.3.0 known.1 in
    let found : Some at.judgement ≡ Some c.in-Some.judgement.now = sym at.there ∙ there in
    let same : at.judgement ≡ c.in-Some.judgement.now = cc in
    c.is_of.ensures.found (subst (IsOf c.args.exceptions.now c.args.text.now) same at.is_of)
