use Rattle.std.proofs.Common.{rules, ◌≡◌, ◌∙◌, sym, ap, refl, ℕ, Bool, true, false, cond, List, [], ◌∷◌, ◌++◌, take, get_or}
use Rattle.std.specs.List.{list_any}
use Rattle.std.proofs.lemmas.List.{append-nil}
use Rattle.spdx_requirement.specs.Items.{Requirement, requirement_of}
use Rattle.spdx_requirement.specs.Equality.{same_requirement}
use Rattle.spdx_licensee.specs.Satisfies.{satisfies}
use Rattle.spdx_minimize.proofs.FirstPlaces.{place_more}
use Rattle.spdx_minimize.proofs.accepted.places_for.Goals as goal
use Rattle.spdx_minimize.proofs.accepted.places_for.Goals.{then-satisfies+then-not-is_among+in_ok-push, else-satisfies, else-satisfies-via-then-satisfies+else-not-is_among, else-satisfies-via-else-satisfies}

-- the place of a licensee that is new and passes is kept, and no other
pushed : (seen kept : Bool) (ks : List ℕ) (k : ℕ) → seen ≡ false → kept ≡ true → ks ++ k ∷ [] ≡ ks ++ cond seen [] (cond kept (k ∷ []) [])
pushed true kept ks k e f = let bad : true ≡ false = e in cc
pushed false false ks k e f = let bad : false ≡ true = f in cc
pushed false true ks k e f = refl

unkept : (seen kept : Bool) (ks : List ℕ) (k : ℕ) → kept ≡ false → ks ≡ ks ++ cond seen [] (cond kept (k ∷ []) [])
unkept true kept ks k e = sym (append-nil ks)
unkept false true ks k e = let bad : true ≡ false = e in cc
unkept false false ks k e = sym (append-nil ks)

repeated : (seen kept : Bool) (ks : List ℕ) (k : ℕ) → seen ≡ true → ks ≡ ks ++ cond seen [] (cond kept (k ∷ []) [])
repeated true kept ks k e = sym (append-nil ks)
repeated false kept ks k e = let bad : false ≡ true = e in cc

pub loop-place-preserved : goal.loop-place-preserved
loop-place-preserved c =
    let ls = c.args.licensees.now in
    let i = c.loop-place.place in
    let d = c.index-licensees-place.result in
    let one = get_or ls i d in
    let keeps : Requirement → Bool = λ r. satisfies r (requirement_of c.args.requirement.now) in
    let among : Requirement → Bool = λ r. list_any (λ b. same_requirement b r) (take i ls) in
    let made : c.if-satisfies.found.items ≡ c.loop-place.found.items ++ cond (among one) [] (cond (keeps one) (i ∷ []) []) = elim c.if-satisfies.branch [
      | then-satisfies+then-not-is_among+in_ok-push w ↦
          let kept : keeps one ≡ true = ap keeps (sym c.index-licensees-place.is) ∙ sym c.satisfies.ensures ∙ search rules in
          let fresh : among one ≡ false = ap among (sym c.index-licensees-place.is) ∙ sym w.is_among.ensures ∙ search rules in
          rw w.found-is (w.in_ok-push.ensures.items ∙ pushed _ _ _ _ fresh kept)
      | else-satisfies w ↦
          rw w.found-is elim w.else-satisfies.branch [
            | else-satisfies-via-then-satisfies+else-not-is_among v ↦
                let again : among one ≡ true = ap among (sym c.index-licensees-place.is) ∙ sym v.is_among.ensures ∙ search rules in
                repeated _ _ _ _ again
            | else-satisfies-via-else-satisfies v ↦
                let kept : keeps one ≡ false = ap keeps (sym c.index-licensees-place.is) ∙ sym c.satisfies.ensures ∙ search rules in
                unkept _ _ _ _ kept
          ]
    ] in
    place_more keeps ls i d _ _ _ c.loop-place-test.true made c.loop-place.invariant
