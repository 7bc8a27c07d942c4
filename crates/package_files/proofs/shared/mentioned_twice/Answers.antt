use Rattle.std.proofs.Common.{◌≡◌, ℕ, ◌+◌, ◌<◌, List, [], ◌∷◌, ◌++◌, length, get_or, map, take, refl, sym, ◌∙◌, ap, subst}
use Rattle.std.specs.Borrow.{Bor}
use Rattle.std.proofs.lemmas.List.{map-append, take_all, take_more}
use Rattle.package_files.specs.declared.mentions.Mention.{Mention}
use Rattle.package_files.specs.Mentions.{AreNoted, MentionRow, Twice, first_of, mention_row}
use Rattle.package_files.proofs.Noted.{none, is_told}
use Rattle.package_files.proofs.shared.mentioned_twice.Goals as goal

abbrev shown : List (Bor (List ℕ)) → List (List ℕ)
shown ts = map (λ (t : Bor (List ℕ)). t.now) ts

pub loop-mention-init : goal.loop-mention-init
loop-mention-init c =
    let told : shown c.new-told.result.items ≡ [] = ap shown c.new-told.ensures.items in
    subst (AreNoted [] (first_of c.new-first.result)) (sym told) (none (first_of c.new-first.result) (λ r. rw c.new-first.ensures.empty refl))

one_more : (ms : List Mention) (i : ℕ) (d : Mention) → i < length ms → map mention_row (take (i + 1) ms) ≡ map mention_row (take i ms) ++ mention_row (get_or ms i d) ∷ []
one_more ms i d low =
    ap (λ (xs : List Mention). map mention_row xs) (take_more ms i d low) ∙ map-append mention_row (take i ms) (get_or ms i d ∷ [])

pub loop-mention-preserved : goal.loop-mention-preserved
loop-mention-preserved c =
    subst (λ (ms : List MentionRow). AreNoted ms (first_of c.note.new.first) (shown c.note.new.told.items)) (sym (one_more c.args.mentions.now c.loop-mention.mention-index _ c.loop-mention-test.true))
    (c.in_ok-note.ensures _ c.loop-mention.invariant)

pub returns : goal.returns
returns c = λ r.
    let all : map mention_row (take c.loop-mention.mention-index c.args.mentions.now) ≡ map mention_row c.args.mentions.now =
    ap (λ (xs : List Mention). map mention_row xs) (take_all c.loop-mention.mention-index c.args.mentions.now c.loop-mention-test.false) in (
      (λ h. subst (λ (ms : List MentionRow). Twice ms r) all (c.loop-mention.invariant.only r h)),
      (λ h. is_told _ _ _ c.loop-mention.invariant r (subst (λ (ms : List MentionRow). Twice ms r) (sym all) h)),
    )
