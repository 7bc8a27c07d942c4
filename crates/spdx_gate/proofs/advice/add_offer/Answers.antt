use Rattle.std.proofs.Common.{◌≡◌, ℕ, true, false, List, sym, ap, ◌∙◌}
use Rattle.std.specs.Prelude.{bytes_eq}
use Rattle.std.specs.List.{list_any}
use Rattle.spdx_requirement.specs.Items.{requirement_of}
use Rattle.spdx_requirement.specs.Texts.{requirement_text}
use Rattle.spdx_policy.specs.Blame.{IsNoEntry}
use Rattle.spdx_policy.specs.Meant.{IsNamed}
use Rattle.spdx_policy.specs.Rules.{NamedRow}
use Rattle.spdx_gate.proofs.Offers.{none_adds, known_adds, new_adds}
use Rattle.spdx_gate.proofs.advice.add_offer.Goals as goal

pub returns-in_default : goal.returns-in_default
returns-in_default c =
    let isnt : IsNoEntry c.args.policy.now.list (requirement_text (requirement_of c.args.way.now)) = rw c.in_default.is at c.in_ok-offer.ensures.none in
    none_adds c.args.policy.now c.args.exceptions.now (requirement_of c.args.way.now) c.args.offers.now.items (sym c.is_free.ensures ∙ c.if-not-is_free.false) isnt

pub returns-then-has_text : goal.returns-then-has_text
returns-then-has_text c =
    let named : IsNamed c.args.policy.now.list c.args.policy.now.replacements (requirement_text (requirement_of c.args.way.now)) c.in-Some.offer = rw c.in-Some.is at c.in_ok-offer.ensures.some in
    let there : list_any (λ (m : NamedRow). bytes_eq m.text c.in-Some.offer.text) c.args.offers.now.items ≡ true =
    ap (λ (ns : List NamedRow). list_any (λ (m : NamedRow). bytes_eq m.text c.in-Some.offer.text) ns) (sym c.as_slice.ensures.value)
    ∙ ap (λ (t : List ℕ). list_any (λ (m : NamedRow). bytes_eq m.text t) c.as_slice.result.now) (sym c.text.ensures)
    ∙ sym c.has_text.ensures ∙ c.if-has_text.true in
    known_adds c.args.policy.now c.args.exceptions.now (requirement_of c.args.way.now) c.in-Some.offer c.args.offers.now.items (sym c.is_free.ensures ∙ c.if-not-is_free.false) named there

pub returns : goal.returns
returns c =
    let named : IsNamed c.args.policy.now.list c.args.policy.now.replacements (requirement_text (requirement_of c.args.way.now)) c.in-Some.offer = rw c.in-Some.is at c.in_ok-offer.ensures.some in
    let there : list_any (λ (m : NamedRow). bytes_eq m.text c.in-Some.offer.text) c.args.offers.now.items ≡ false =
    ap (λ (ns : List NamedRow). list_any (λ (m : NamedRow). bytes_eq m.text c.in-Some.offer.text) ns) (sym c.as_slice.ensures.value)
    ∙ ap (λ (t : List ℕ). list_any (λ (m : NamedRow). bytes_eq m.text t) c.as_slice.result.now) (sym c.text.ensures)
    ∙ sym c.has_text.ensures ∙ c.if-has_text.false in
    new_adds c.args.policy.now c.args.exceptions.now (requirement_of c.args.way.now) c.in-Some.offer c.args.offers.now.items c.push.new.self.items (sym c.is_free.ensures ∙ c.if-not-is_free.false) named there
    c.in_ok-push.ensures.items
