use Rattle.std.proofs.Common.{rules, ◌≡◌, List, [], ◌∷◌, map, refl, sym, ◌∙◌, ap, subst}
use Rattle.std.proofs.lemmas.Bool.{cond-true, cond-false}
use Rattle.spdx.specs.Failures.{IfRefused}
use Rattle.spdx.specs.LexerCode.{span_of}
use Rattle.spdx.specs.Words.{Span}
use Rattle.spdx.specs.Value.{PlacedRequirement, placed_of, nows}
use Rattle.spdx.specs.declared.expression.ExpressionReq.{ExpressionReq}
use Rattle.spdx.proofs.Leaves.{if_ok}
use Rattle.spdx_uses.specs.Policy.{accepts}
use Rattle.spdx_uses.proofs.explainer.refused_places.Goals as goal

places_are : (rs : List ExpressionReq) → map {A = PlacedRequirement} {B = Span} (λ p. p.1) (map placed_of rs) ≡ map (λ r. span_of r.span) rs
places_are [] = refl
places_are (r ∷ rs) = ap (λ (z : List Span). span_of r.span ∷ z) (places_are rs)

pub returns-in-Ok : goal.returns-in-Ok
returns-in-Ok c =
    let truth = c.in-Ok.ensures.ok_by (accepts c.args.accepted.now) (λ x b g called. search rules) in
    ap (λ ps. map span_of ps) c.new.ensures.items ∙ sym (cond-true _ _ _ truth)

pub returns-in-Err-Refused : goal.returns-in-Err-Refused
returns-in-Err-Refused c =
    let told = subst (IfRefused _) c.in-Err-Refused.field-0-is c.in-Err-Refused.ensures.err_by in
    let fails = told (accepts c.args.accepted.now) (λ x b g called. search rules) in
    if_ok c.places_of.result c.places_of.ensures (λ places are.
    are ∙ sym (places_are (nows c.in-Err-Refused.refused.items)) ∙ ap (map (λ p. p.1)) fails.1 ∙ sym (cond-false _ _ _ fails.0))
