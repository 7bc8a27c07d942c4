use Rattle.std.proofs.Common.{rules, ◌≡◌, ◌∙◌, sym, ap, ℕ, ◌+◌, ◌<◌, Bool, true, false, cond, List, [], ◌∷◌, ◌++◌, length, take, drop, get_or, refl}
use Rattle.std.specs.List.{filter, list_any}
use Rattle.std.proofs.lemmas.List.{drop_more, take_more}
use Rattle.spdx_requirement.specs.Items.{Requirement, requirement_of}
use Rattle.spdx_requirement.specs.Equality.{same_requirement}
use Rattle.spdx_parser.specs.Tree.{Leaf}
use Rattle.spdx_licensee.specs.Satisfies.{satisfies}
use Rattle.spdx_minimize.specs.Choice.{first_ones, satisfies_some}
use Rattle.spdx_minimize.proofs.Chosen.{first_more}
use Rattle.spdx_minimize.proofs.OneRequirement.{alone}
use Rattle.spdx_minimize.proofs.choice.first.first_useful.Goals as goal
use Rattle.spdx_minimize.proofs.choice.first.first_useful.Goals.{else-satisfies-via-then-satisfies+else-not-is_among, else-satisfies-via-else-satisfies}

-- one licensee more: it is the next useful one, or there is none so far
further : (ls : List Requirement) (i : ℕ) (d : Requirement) (keeps : Requirement → Bool) (new all : List Requirement) → i < length ls
    → new ≡ cond (list_any (λ b. same_requirement b (get_or ls i d)) (take i ls)) [] (cond (keeps (get_or ls i d)) (get_or ls i d ∷ []) [])
    → filter keeps (first_ones (take i ls) (drop i ls)) ≡ all
    → new ++ filter keeps (first_ones (take (i + 1) ls) (drop (i + 1) ls)) ≡ all
further ls i d keeps new all lt made so_far =
    let one = get_or ls i d in
    ap (λ (z : List Requirement). new ++ filter keeps (first_ones z (drop (i + 1) ls))) (take_more ls i d lt)
    ∙ first_more (take i ls) one (drop (i + 1) ls) keeps [] new all made
    (ap (λ (z : List Requirement). filter keeps (first_ones (take i ls) z)) (sym (drop_more ls i d lt)) ∙ so_far)

here : (seen kept : Bool) (r : Requirement) → seen ≡ false → kept ≡ true → r ∷ [] ≡ cond seen [] (cond kept (r ∷ []) [])
here true kept r e f = let bad : true ≡ false = e in cc
here false false r e f = let bad : false ≡ true = f in cc
here false true r e f = refl

unkept : (seen kept : Bool) (r : Requirement) → kept ≡ false → [] ≡ cond seen [] (cond kept (r ∷ []) [])
unkept true kept r e = refl
unkept false true r e = let bad : true ≡ false = e in cc
unkept false false r e = refl

repeated : (seen kept : Bool) (r : Requirement) → seen ≡ true → [] ≡ cond seen [] (cond kept (r ∷ []) [])
repeated true kept r e = refl
repeated false kept r e = let bad : false ≡ true = e in cc

pub returns-then-not-is_among-clause-first : goal.returns-then-not-is_among-clause-first
returns-then-not-is_among-clause-first c =
    let ls = c.args.accepted.now in
    let i = c.loop-place.place in
    let d = c.index-accepted-place.result in
    let one = get_or ls i d in
    let required = requirement_of c.args.requirement.now in
    let keeps = satisfies_some (Leaf required ∷ []) in
    let among : Requirement → Bool = λ r. list_any (λ b. same_requirement b r) (take i ls) in
    let met : satisfies d required ≡ true = sym c.satisfies.ensures ∙ search rules in
    let kept : keeps one ≡ true = ap keeps (sym c.index-accepted-place.is) ∙ alone required d ∙ met in
    let fresh : among one ≡ false = ap among (sym c.index-accepted-place.is) ∙ sym c.is_among.ensures ∙ search rules in
    let is = further ls i d keeps _ _ c.loop-place-test.true (here _ _ one fresh kept) c.loop-place.invariant in
    ap (take 1) (sym is) ∙ ap (λ (z : Requirement). z ∷ []) (sym c.index-accepted-place.is)

pub loop-place-preserved : goal.loop-place-preserved
loop-place-preserved c =
    let ls = c.args.accepted.now in
    let i = c.loop-place.place in
    let d = c.index-accepted-place.result in
    let one = get_or ls i d in
    let required = requirement_of c.args.requirement.now in
    let keeps = satisfies_some (Leaf required ∷ []) in
    let among : Requirement → Bool = λ r. list_any (λ b. same_requirement b r) (take i ls) in
    let made : [] ≡ cond (among one) [] (cond (keeps one) (one ∷ []) []) = elim c.else-satisfies.branch [
      | else-satisfies-via-then-satisfies+else-not-is_among v ↦
          let again : among one ≡ true = ap among (sym c.index-accepted-place.is) ∙ sym v.is_among.ensures ∙ search rules in
          repeated _ _ one again
      | else-satisfies-via-else-satisfies v ↦
          let unmet : satisfies d required ≡ false = sym c.satisfies.ensures ∙ search rules in
          let kept : keeps one ≡ false = ap keeps (sym c.index-accepted-place.is) ∙ alone required d ∙ unmet in
          unkept _ _ one kept
    ] in
    further ls i d keeps [] _ c.loop-place-test.true made c.loop-place.invariant
