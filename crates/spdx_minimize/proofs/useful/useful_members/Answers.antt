use Rattle.std.proofs.Common.{rules, ◌≡◌, ◌∙◌, sym, ap, ℕ, ◌+◌, ◌<◌, Bool, true, false, cond, List, [], ◌∷◌, ◌++◌, length, take, drop, get_or}
use denote.Ref.{Bor}
use Rattle.std.specs.List.{filter, list_any}
use Rattle.std.proofs.lemmas.List.{append-nil, drop_more, take_more, map-append}
use Rattle.spdx_requirement.specs.Items.{Requirement}
use Rattle.spdx_requirement.specs.Equality.{same_requirement}
use Rattle.spdx_minimize.specs.Choice.{first_ones, satisfies_some}
use Rattle.spdx_minimize.specs.Trees.{trees_in}
use Rattle.spdx_evaluation.specs.Requirements.{nows}
use Rattle.spdx_minimize.proofs.Chosen.{first_more}
use Rattle.spdx_minimize.proofs.useful.useful_members.Goals as goal
use Rattle.spdx_minimize.proofs.useful.useful_members.Goals.{then-is_useful+then-not-is_among+in_ok-push, else-is_useful, else-is_useful-via-then-is_useful+else-not-is_among, else-is_useful-via-else-is_useful}

-- one licensee more
further : (ls : List Requirement) (i : ℕ) (d : Requirement) (keeps : Requirement → Bool) (old new all : List Requirement) → i < length ls
    → new ≡ old ++ cond (list_any (λ b. same_requirement b (get_or ls i d)) (take i ls)) [] (cond (keeps (get_or ls i d)) (get_or ls i d ∷ []) [])
    → old ++ filter keeps (first_ones (take i ls) (drop i ls)) ≡ all
    → new ++ filter keeps (first_ones (take (i + 1) ls) (drop (i + 1) ls)) ≡ all
further ls i d keeps old new all lt made so_far =
    let one = get_or ls i d in
    ap (λ (z : List Requirement). new ++ filter keeps (first_ones z (drop (i + 1) ls))) (take_more ls i d lt)
    ∙ first_more (take i ls) one (drop (i + 1) ls) keeps old new all made
    (ap (λ (z : List Requirement). old ++ filter keeps (first_ones (take i ls) z)) (sym (drop_more ls i d lt)) ∙ so_far)

-- a licensee that is new and useful is kept, and no other
pushed : (seen kept : Bool) (ms : List (Bor Requirement)) (m : Bor Requirement) (r : Requirement) → seen ≡ false → kept ≡ true → m.now ≡ r → nows (ms ++ m ∷ []) ≡ nows ms ++ cond seen [] (cond kept (r ∷ []) [])
pushed true kept ms m r e f g = let bad : true ≡ false = e in cc
pushed false false ms m r e f g = let bad : false ≡ true = f in cc
pushed false true ms m r e f g = map-append (λ n. n.now) ms (m ∷ []) ∙ ap (λ (z : Requirement). nows ms ++ z ∷ []) g

unkept : (seen kept : Bool) (ms : List (Bor Requirement)) (r : Requirement) → kept ≡ false → nows ms ≡ nows ms ++ cond seen [] (cond kept (r ∷ []) [])
unkept true kept ms r e = sym (append-nil (nows ms))
unkept false true ms r e = let bad : true ≡ false = e in cc
unkept false false ms r e = sym (append-nil (nows ms))

repeated : (seen kept : Bool) (ms : List (Bor Requirement)) (r : Requirement) → seen ≡ true → nows ms ≡ nows ms ++ cond seen [] (cond kept (r ∷ []) [])
repeated true kept ms r e = sym (append-nil (nows ms))
repeated false kept ms r e = let bad : false ≡ true = e in cc

pub loop-place-preserved : goal.loop-place-preserved
loop-place-preserved c =
    let ls = c.args.accepted.now in
    let i = c.loop-place.place in
    let d = c.index-accepted-place.result in
    let one = get_or ls i d in
    let keeps = satisfies_some (trees_in c.args.lists.now) in
    let among : Requirement → Bool = λ r. list_any (λ b. same_requirement b r) (take i ls) in
    let made : nows c.if-is_useful.members.items ≡ nows c.loop-place.members.items ++ cond (among one) [] (cond (keeps one) (one ∷ []) []) = elim c.if-is_useful.branch [
      | then-is_useful+then-not-is_among+in_ok-push w ↦
          let kept : keeps one ≡ true = ap keeps (sym c.index-accepted-place.is) ∙ sym c.is_useful.ensures ∙ search rules in
          let fresh : among one ≡ false = ap among (sym c.index-accepted-place.is) ∙ sym w.is_among.ensures ∙ search rules in
          rw w.members-is (ap nows w.in_ok-push.ensures.items ∙ pushed _ _ _ _ _ fresh kept c.index-accepted-place.is)
      | else-is_useful w ↦
          rw w.members-is elim w.else-is_useful.branch [
            | else-is_useful-via-then-is_useful+else-not-is_among v ↦
                let again : among one ≡ true = ap among (sym c.index-accepted-place.is) ∙ sym v.is_among.ensures ∙ search rules in
                repeated _ _ _ _ again
            | else-is_useful-via-else-is_useful v ↦
                let kept : keeps one ≡ false = ap keeps (sym c.index-accepted-place.is) ∙ sym c.is_useful.ensures ∙ search rules in
                unkept _ _ _ _ kept
          ]
    ] in
    further ls i d keeps _ _ _ c.loop-place-test.true made c.loop-place.invariant
