-- Distinct requirements, one after another.
use Rattle.std.proofs.Common.{◌≡◌, ℕ, ◌+◌, ◌<◌, Bool, true, false, ◌||◌, cond, List, [], ◌∷◌, ◌++◌, length, drop, refl, sym, ◌∙◌, ap, get_or}
use Rattle.std.specs.List.{list_any}
use Rattle.std.proofs.lemmas.List.{append-nil, append_assoc, drop_more}
use Rattle.spdx_requirement.specs.declared.requirement.LicenseReq.{LicenseReq}
use Rattle.spdx_requirement.specs.Items.{Requirement, requirement_of}
use Rattle.spdx_requirement.specs.Equality.{same_requirement}
use Rattle.spdx_requirement.specs.EqualityLaws.{same_requirement_laws}
use Rattle.spdx_minimize.specs.Choice.{first_ones, chosen_of}
use Rattle.package_choices.specs.Members.{shown, grown}

abbrev pub among : List Requirement → Requirement → Bool
among ms r = list_any (λ m. same_requirement m r) ms

pub any_shown : (p : Requirement → Bool) (reqs : List LicenseReq) → list_any (λ b. p (requirement_of b)) reqs ≡ list_any p (shown reqs)
any_shown p [] = refl
any_shown p (r ∷ rs) = ap (λ (z : Bool). p (requirement_of r) || z) (any_shown p rs)

pub grown-append : (ms xs ys : List Requirement) → grown ms (xs ++ ys) ≡ grown (grown ms xs) ys
grown-append ms [] ys = refl
grown-append ms (x ∷ xs) ys = grown-append (ms ++ cond (among ms x) [] (x ∷ [])) xs ys

among-append : (ms ns : List Requirement) (r : Requirement) → among (ms ++ ns) r ≡ (among ms r || among ns r)
among-append [] ns r = refl
among-append (m ∷ ms) ns r = ap (λ (z : Bool). same_requirement m r || z) (among-append ms ns r) ∙ or_assoc (same_requirement m r) (among ms r) (among ns r)
  where
    or_assoc : (a b c : Bool) → (a || (b || c)) ≡ ((a || b) || c)
    or_assoc true b c = refl
    or_assoc false b c = refl

-- the same requirements are among the same ones
pub among_respects : (ms : List Requirement) (a b : Requirement) → same_requirement a b ≡ true → among ms a ≡ among ms b
among_respects [] a b e = refl
among_respects (m ∷ ms) a b e =
    let one : same_requirement m a ≡ same_requirement m b = same_requirement_laws.symm m a ∙ same_requirement_laws.congr a b m e ∙ same_requirement_laws.symm b m in
    ap (λ (x : Bool). x || among ms a) one ∙ ap (λ (x : Bool). same_requirement m b || x) (among_respects ms a b e)

absorbed : (a s : Bool) → (s ≡ true → a ≡ true) → a ≡ (a || (s || false))
absorbed true s f = refl
absorbed false true f = f refl
absorbed false false f = refl

same_after : (ms before : List Requirement) (r : Requirement) (seen : Bool) → among before r ≡ seen → ((q : Requirement) → among ms q ≡ among before q)
    → (q : Requirement) → among (ms ++ cond seen [] (r ∷ [])) q ≡ among (before ++ r ∷ []) q
same_after ms before r true e h q =
    ap (λ (z : List Requirement). among z q) (append-nil ms)
    ∙ h q
    ∙ absorbed (among before q) (same_requirement r q) (λ f. sym (among_respects before r q f) ∙ e)
    ∙ sym (among-append before (r ∷ []) q)
same_after ms before r false e h q = among-append ms (r ∷ []) q ∙ ap (λ (z : Bool). z || (same_requirement r q || false)) (h q) ∙ sym (among-append before (r ∷ []) q)

grown_firsts : (ms before rs : List Requirement) → ((q : Requirement) → among ms q ≡ among before q) → grown ms rs ≡ ms ++ first_ones before rs
grown_firsts ms before [] h = sym (append-nil ms)
grown_firsts ms before (r ∷ rs) h =
    let seen = among before r in
    ap (λ (b : Bool). grown (ms ++ cond b [] (r ∷ [])) rs) (h r)
    ∙ grown_firsts (ms ++ cond seen [] (r ∷ [])) (before ++ r ∷ []) rs (same_after ms before r seen refl h)
    ∙ append_assoc ms (cond seen [] (r ∷ [])) (first_ones (before ++ r ∷ []) rs)

-- so they are the first ones
pub firsts_grown : (rs : List Requirement) → grown [] rs ≡ first_ones [] rs
firsts_grown rs = grown_firsts [] [] rs (λ q. refl)

-- one requirement more of those that are chosen
pub grown_chosen : (ms : List Requirement) (r : Requirement) (rs : List Requirement) (bs : List Bool) (k : ℕ) (b : Bool) → k < length bs → get_or bs k false ≡ b
    → grown ms (chosen_of (r ∷ rs) (drop k bs)) ≡ grown (grown ms (cond b (r ∷ []) [])) (chosen_of rs (drop (k + 1) bs))
grown_chosen ms r rs bs k b lt is =
    ap (λ (z : List Bool). grown ms (chosen_of (r ∷ rs) z)) (drop_more bs k false lt)
    ∙ grown-append ms (cond (get_or bs k false) (r ∷ []) []) (chosen_of rs (drop (k + 1) bs))
    ∙ ap (λ (x : Bool). grown (grown ms (cond x (r ∷ []) [])) (chosen_of rs (drop (k + 1) bs))) is
