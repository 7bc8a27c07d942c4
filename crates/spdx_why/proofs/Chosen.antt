-- Only candidates are first candidates, and only candidates are chosen.
use Rattle.std.proofs.Common.{◌≡◌, ℕ, zero, suc, ◌+◌, ◌<◌, Bool, true, false, ◌&&◌, ◌||◌, cond, ◌⊎◌, inl, inr, List, [], ◌∷◌, length, drop, map, refl, sym, ◌∙◌, ap, arith}
use Rattle.std.specs.List.{list_all}
use Rattle.std.proofs.lemmas.List.{drop_more, get_or_past}
use Rattle.spdx_requirement.specs.Items.{Requirement, requirement_of}
use Rattle.spdx_requirement.specs.Equality.{same_requirement}
use Rattle.spdx_parser.specs.declared.node.ExpressionReq.{ExpressionReq}
use Rattle.spdx_parser.specs.declared.node.ExprNode.{ExprNode}
use Rattle.spdx_parser.specs.Tree.{Tree, leaves}
use Rattle.selections.specs.Selection.{IsWithin, IsLeast, NeedsEach}
use Rattle.spdx_evaluation.specs.Truth.{truth_of}
use Rattle.spdx_evaluation.specs.Requirements.{requirements_in}
use Rattle.spdx_evaluation.proofs.Nodes.{requirement_at}
use Rattle.spdx_minimize.specs.Places.{places_from}
use Rattle.spdx_why.specs.declared.choice.Remedy.{Remedy}
use Rattle.spdx_why.specs.declared.choice.Remedy.TheVariants.{Accept, Unmet, TooMany}
use Rattle.spdx_why.specs.Missing.{answer_in}
use Rattle.spdx_why.specs.Least.{with_chosen, first_candidate, suffices_in, numbers_of, IsLeastRemedy, AdvisesOnly}

-- a candidate that is the same is the first
pub found_first : (other : ExpressionReq) (nodes : List ExprNode) (cs : List Bool) (k : ℕ) (r : Requirement) → k < length cs → answer_in cs k ≡ true → same_requirement (requirement_of other.req) r ≡ true
    → first_candidate (map requirement_at (requirements_in (ExprNode.Req other ∷ nodes))) (drop k cs) r ≡ 0
found_first other nodes cs k r lt is same =
    let rs = map requirement_at (requirements_in nodes) in
    let q = requirement_at other in
    ap (λ (z : List Bool). first_candidate (q ∷ rs) z r) (drop_more cs k false lt)
    ∙ ap (λ (b : Bool). cond (b && same_requirement q r) 0 (first_candidate rs (drop (k + 1) cs) r + 1)) is
    ∙ ap (λ (b : Bool). cond b 0 (first_candidate rs (drop (k + 1) cs) r + 1)) same

-- the first candidate is one, or there is none
first_or_none : (rs : List Requirement) (cs : List Bool) (r : Requirement) → (answer_in cs (first_candidate rs cs r) ≡ true) ⊎ (first_candidate rs cs r ≡ length rs)
first_or_none [] cs r = inr refl
first_or_none (q ∷ qs) [] r = inr (none_of qs)
  where
    none_of : (qs : List Requirement) → first_candidate (q ∷ qs) [] r ≡ length (q ∷ qs)
    none_of [] = omega arith
    none_of (p ∷ ps) = omega (arith, none_of ps)
first_or_none (q ∷ qs) (c ∷ cs) r = step c (same_requirement q r) (first_or_none qs cs r)
  where
    step : (c s : Bool) → ((answer_in cs (first_candidate qs cs r) ≡ true) ⊎ (first_candidate qs cs r ≡ length qs))
        → (answer_in (c ∷ cs) (cond (c && s) 0 (first_candidate qs cs r + 1)) ≡ true) ⊎ (cond (c && s) 0 (first_candidate qs cs r + 1) ≡ length (q ∷ qs))
    step true true h = inl refl
    step true false (inl h) = inl (later (first_candidate qs cs r) h)
      where
        later : (n : ℕ) → answer_in cs n ≡ true → answer_in (true ∷ cs) (n + 1) ≡ true
        later n h = ap (answer_in (true ∷ cs)) (let e : n + 1 ≡ suc n = omega arith in e) ∙ h
    step true false (inr h) = inr (omega (arith, h))
    step false s (inl h) = inl (later (first_candidate qs cs r) h)
      where
        later : (n : ℕ) → answer_in cs n ≡ true → answer_in (false ∷ cs) (n + 1) ≡ true
        later n h = ap (answer_in (false ∷ cs)) (let e : n + 1 ≡ suc n = omega arith in e) ∙ h
    step false s (inr h) = inr (omega (arith, h))

-- what is in both
abbrev pub both : List Bool → List Bool → List Bool
both [] cs = []
both (b ∷ bs) [] = false ∷ both bs []
both (b ∷ bs) (c ∷ cs) = (b && c) ∷ both bs cs

left_out : (b : Bool) → false ≡ (b && false)
left_out true = refl
left_out false = refl

both_at : (bs cs : List Bool) (k : ℕ) → answer_in (both bs cs) k ≡ (answer_in bs k && answer_in cs k)
both_at [] [] k = refl
both_at [] (c ∷ cs) k = refl
both_at (b ∷ bs) [] zero = left_out b
both_at (b ∷ bs) [] (suc k) = both_at bs [] k
both_at (b ∷ bs) (c ∷ cs) zero = refl
both_at (b ∷ bs) (c ∷ cs) (suc k) = both_at bs cs k

both_within : (bs cs : List Bool) → IsWithin (both bs cs) bs
both_within [] cs = tt
both_within (b ∷ bs) [] = ((λ e. let bad : false ≡ true = e in cc), both_within bs [])
both_within (b ∷ bs) (c ∷ cs) = (front b c, both_within bs cs)
  where
    front : (b c : Bool) → (b && c) ≡ true → b ≡ true
    front true c e = refl
    front false c e = e

and_true : (b c : Bool) → c ≡ true → (b && c) ≡ b
and_true true c e = e
and_true false c e = refl

-- what is no candidate is nobody's first
same_firsts : (rs : List Requirement) (cs selection : List Bool) (r : Requirement) → length selection ≡ length rs
    → answer_in (both selection cs) (first_candidate rs cs r) ≡ answer_in selection (first_candidate rs cs r)
same_firsts rs cs selection r e =
    let f = first_candidate rs cs r in
    elim (first_or_none rs cs r) [
      | inl h ↦ both_at selection cs f ∙ and_true (answer_in selection f) (answer_in cs f) h
      | inr h ↦
          let past : answer_in selection f ≡ false = get_or_past selection f false (omega (arith, e, h)) in
          both_at selection cs f ∙ ap (λ (b : Bool). b && answer_in cs f) past ∙ sym past
    ]

same_answers : (rs : List Requirement) (cs selection accepted : List Bool) (qs : List Requirement) → length selection ≡ length rs
    → with_chosen accepted (map (first_candidate rs cs) qs) (both selection cs) ≡ with_chosen accepted (map (first_candidate rs cs) qs) selection
same_answers rs cs selection [] qs e = refl
same_answers rs cs selection (a ∷ rest) [] e = refl
same_answers rs cs selection (a ∷ rest) (q ∷ qs) e =
    ap (λ (b : Bool). (a || b) ∷ with_chosen rest (map (first_candidate rs cs) qs) (both selection cs)) (same_firsts rs cs selection q e)
    ∙ ap (λ (z : List Bool). (a || answer_in selection (first_candidate rs cs q)) ∷ z) (same_answers rs cs selection rest qs e)

all_numbers : (p : ℕ → Bool) (xs : List Bool) (j : ℕ) → ((k : ℕ) → answer_in xs k ≡ true → p (j + k) ≡ true) → list_all p (places_from (λ b. b) j xs) ≡ true
all_numbers p [] j h = refl
all_numbers p (true ∷ xs) j h =
    let here : p j ≡ true = ap p (let e : j ≡ j + 0 = omega arith in e) ∙ h 0 refl in
    ap (λ (b : Bool). b && list_all p (places_from (λ b. b) (j + 1) xs)) here
    ∙ all_numbers p xs (j + 1) (λ k e. ap p (let same : j + 1 + k ≡ j + suc k = omega arith in same) ∙ h (suc k) e)
all_numbers p (false ∷ xs) j h = all_numbers p xs (j + 1) (λ k e. ap p (let same : j + 1 + k ≡ j + suc k = omega arith in same) ∙ h (suc k) e)

second : (b c : Bool) → b ≡ true → (b && c) ≡ b → c ≡ true
second true c e h = h
second false c e h = let bad : false ≡ true = e in cc

-- only candidates are chosen, since each chosen one is needed
pub only_candidates : (t : Tree) (accepted candidates selection : List Bool) → length accepted ≡ length (leaves t) → IsLeast (suffices_in t accepted candidates) (length accepted) selection
    → NeedsEach (suffices_in t accepted candidates) selection → list_all (answer_in candidates) (numbers_of selection) ≡ true
only_candidates t accepted candidates selection each least needed =
    let as_many : length selection ≡ length (leaves t) = least.each_member ∙ each in
    let answers = same_answers (leaves t) candidates selection accepted (leaves t) as_many in
    let same : both selection candidates ≡ selection = needed (both selection candidates) (both_within selection candidates) (ap (truth_of t) answers ∙ least.sufficient) in
    all_numbers (answer_in candidates) selection 0 (λ k e.
    let one : (answer_in selection k && answer_in candidates k) ≡ answer_in selection k = sym (both_at selection candidates k) ∙ ap (λ (z : List Bool). answer_in z k) same in
    let there : answer_in candidates k ≡ true = second (answer_in selection k) (answer_in candidates k) e one in
    ap (answer_in candidates) (let z : 0 + k ≡ k = omega arith in z) ∙ there)

pub advises_candidates : (t : Tree) (accepted candidates : List Bool) → length accepted ≡ length (leaves t) → (advice : Remedy) → IsLeastRemedy (suffices_in t accepted candidates) (length accepted) advice → AdvisesOnly candidates advice
advises_candidates t accepted candidates each (Accept v) known =
    ap (λ (z : List ℕ). list_all (answer_in candidates) z) known.numbers_are ∙ only_candidates t accepted candidates known.selection each known.least known.needed
advises_candidates t accepted candidates each Unmet known = tt
advises_candidates t accepted candidates each (TooMany n) known = tt
