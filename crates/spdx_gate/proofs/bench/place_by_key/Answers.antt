use Rattle.std.proofs.Common.{◌≡◌, ◌∙◌, sym, ap, subst, inr, ℕ, List, length}
use Rattle.spdx_gate.specs.declared.judgement.Judgement.{Judgement}
use Rattle.spdx_gate.specs.Benches.{AddsOne, IsIndex, IsUnknown, Notes, key_of}
use Rattle.spdx_gate.proofs.Benches.{index_more}
use Rattle.spdx_gate.proofs.Rows.{put_one, put_at}
use Rattle.spdx_gate.proofs.bench.place_by_key.Goals as goal

pub known_place-requires-clause-index : goal.known_place-requires-clause-index
known_place-requires-clause-index c = subst (IsIndex c.args.by_key.now) (sym c.as_slice.ensures.value) c.requires.index

added : (c : goal.In_ok-push) → AddsOne c.args.catalogue.now c.args.policy.now c.args.sought.exceptions.now c.args.sought.text.now c.args.judgements.now.items c.push.new.self.items
added c =
    let unknown : IsUnknown c.args.judgements.now.items c.args.sought.exceptions.now c.args.sought.text.now =
    subst (λ (js : List Judgement). IsUnknown js c.args.sought.exceptions.now c.args.sought.text.now) c.as_slice.ensures.value c.in_default.ensures in
    put_one c.args.catalogue.now c.args.policy.now c.args.sought.exceptions.now c.args.sought.text.now c.args.judgements.now.items c.push.new.self.items _ c.in_ok-push.ensures.items c.in_ok-from_str-2.ensures.ok c.in_ok-from_slice.ensures.items c.in_ok-outcome.ensures.exact unknown

many : (c : goal.In_ok-push) → c.len-place.result ≡ length c.args.judgements.now.items
many c = c.len-place.ensures ∙ sym c.as_slice.ensures.len ∙ ap (λ (z : List Judgement). length z) c.as_slice.ensures.value

pub returns-clause-adds : goal.returns-clause-adds
returns-clause-adds c = inr (added c)

pub returns-clause-place : goal.returns-clause-place
returns-clause-place c = put_at _ _ _ _ _ _ _ (added c) (many c)

pub returns-clause-index : goal.returns-clause-index
returns-clause-index c =
    let one = added c in
    let key = key_of c.args.sought.exceptions.now c.args.sought.text.now in
    let notes : Notes c.args.by_key.now key c.len-place.result c.note.new.by_key =
    subst (λ (k : List ℕ). Notes c.args.by_key.now k c.len-place.result c.note.new.by_key) (c.in_ok-from_str.ensures.ok ∙ c.requires.key) c.in_ok-note.ensures in
    index_more c.args.by_key.now c.note.new.by_key c.args.judgements.now.items c.push.new.self.items one.judgement c.args.sought.exceptions.now c.args.sought.text.now c.len-place.result one.last (many c) c.requires.index one.is_of notes
