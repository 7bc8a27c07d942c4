use Rattle.std.proofs.Common.{◌≡◌, ℕ, List, [], ◌∷◌, ◌++◌, map, Some, None, ◌∙◌, sym, ap, subst}
use Rattle.std.specs.Borrow.{Bor}
use Rattle.std.proofs.lemmas.List.{map-append}
use Rattle.std.proofs.lemmas.Map.Text.{btree_map_updates_str}
use Rattle.package_files.specs.Mentions.{AreNoted, first_of, mention_row}
use Rattle.package_files.proofs.Noted.{again, new, of_other}
use Rattle.package_files.proofs.shared.note.Goals as goal

pub returns-in_ok-insert-in-None : goal.returns-in_ok-insert-in-None
returns-in_ok-insert-in-None c = λ ms h.
    let lacked : first_of c.args.first.now c.args.mention.reference.now ≡ None = sym c.get.ensures.value ∙ sym c.copied.ensures ∙ c.in-None.is in
    new ms _ _ _ (mention_row c.args.mention) h lacked
    (λ r. btree_map_updates_str c.args.mention.reference.now c.args.first.now c.insert.new.self _ c.in_ok-insert-in-None.ensures.updates r)

abbrev shown : Bor (List ℕ) → List ℕ
shown t = t.now

pub returns-in-Some : goal.returns-in-Some
returns-in-Some c = λ ms h.
    let same : first_of c.args.first.now c.args.mention.reference.now ≡ Some c.args.mention.document =
    sym c.get.ensures.value ∙ sym c.copied.ensures ∙ c.in-Some.is ∙ ap (λ (d : ℕ). Some d) c.if-document-mention.true in
    again ms _ _ (mention_row c.args.mention) h same

pub returns-in_ok-push-in-Some-2 : goal.returns-in_ok-push-in-Some-2
returns-in_ok-push-in-Some-2 c = λ ms h.
    let other : first_of c.args.first.now c.args.mention.reference.now ≡ Some c.in-Some.document =
    sym c.get.ensures.value ∙ sym c.copied.ensures ∙ c.in-Some.is in
    let told : map shown c.push.new.self.items ≡ map shown c.args.told.now.items ++ c.args.mention.reference.now ∷ [] =
    ap (λ (ts : List (Bor (List ℕ))). map shown ts) c.in_ok-push-in-Some-2.ensures.items ∙ map-append shown c.args.told.now.items (c.args.mention.reference ∷ []) in
    subst (AreNoted (ms ++ mention_row c.args.mention ∷ []) (first_of c.args.first.now)) (sym told)
    (of_other ms _ _ (mention_row c.args.mention) c.in-Some.document h other c.if-document-mention.false)
