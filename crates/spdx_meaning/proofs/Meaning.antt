-- What the least sets of a tree say of what is accepted.
use Rattle.std.proofs.Common.{◌≡◌, ℕ, suc, ◌+◌, Bool, true, false, ◌&&◌, ◌||◌, cond, nat_lt, List, [], ◌∷◌, ◌++◌, Option, None, Some, length, take, drop, map, Result, Ok, Err, refl, sym, ◌∙◌, ap, subst, arith}
use Rattle.std.specs.Prelude.{not, ◌==◌, is_none, is_some, option_map}
use Rattle.std.proofs.lemmas.Bool.{eq-eqb}
use Rattle.std.specs.List.{list_any, list_all, find}
use Rattle.std.proofs.lemmas.List.{map-append, length-map, take-append-le, drop-append-le, take_all, drop_all}
use Rattle.spdx_requirement.specs.Items.{Requirement}
use Rattle.spdx_requirement.specs.Equality.{same_requirement}
use Rattle.spdx_requirement.specs.EqualityLaws.{requirements_decide}
use Rattle.spdx_parser.specs.declared.node.Operator.{Operator}
use Rattle.spdx_parser.specs.declared.node.Operator.TheVariants.{And, Or}
use Rattle.spdx_parser.specs.Tree.{Tree, Leaf, Join, leaves}
use Rattle.spdx_evaluation.specs.Truth.{joined, truth_of, holds}
use Rattle.selections.specs.Selection.{IsWithin}
use Rattle.spdx_minimize.specs.GrowthLaws.{truth_grows}
use Rattle.selections.specs.Sets.{is_in, includes, met_by, AreApart}
use Rattle.selections.proofs.Means.{same_truth, some_passes, in_passes, either_means, both_mean, and_first, and_second}
use Rattle.selections.proofs.Apart.{Among, all_from, none_passes, either_apart, both_apart}
use Rattle.spdx_meaning.specs.Places.{place_in, answer_at}
use Rattle.spdx_meaning.specs.Meaning.{IsAcceptance, AsksAtLeast, IsEquivalent}
use Rattle.spdx_meaning.specs.Minimal.{is_unmet}
use Rattle.spdx_meaning.specs.Made.{count_made, join_sets, made_of, made_beside, made_from, made_by, made_in}

-- ---- the truth of a tree by its parts

pub holds_join : (h : Requirement → Bool) (o : Operator) (l r : Tree) → holds h (Join o l r) ≡ joined o (holds h l) (holds h r)
holds_join h o l r =
    let n = length (leaves l) in
    let ls = map h (leaves l) in
    let rs = map h (leaves r) in
    let len : length ls ≡ n = length-map (leaves l) h in
    let split : map h (leaves l ++ leaves r) ≡ ls ++ rs = map-append h (leaves l) (leaves r) in
    let left : take n (ls ++ rs) ≡ ls = take-append-le n ls rs (omega (arith, len)) ∙ take_all n ls (omega (arith, len)) in
    let right : drop n (ls ++ rs) ≡ rs = drop-append-le n ls rs (omega (arith, len)) ∙ ap (λ (z : List Bool). z ++ rs) (drop_all n ls (omega (arith, len))) in
    ap (truth_of (Join o l r)) split
    ∙ ap (λ (z : List Bool). joined o (truth_of l z) (truth_of r (drop n (ls ++ rs)))) left
    ∙ ap (λ (z : List Bool). joined o (truth_of l ls) (truth_of r z)) right

pub holds_same : (h g : Requirement → Bool) (t : Tree) → map h (leaves t) ≡ map g (leaves t) → holds h t ≡ holds g t
holds_same h g t e = ap (truth_of t) e

within_map : (p q : Requirement → Bool) → ((r : Requirement) → p r ≡ true → q r ≡ true) → (rs : List Requirement) → IsWithin (map p rs) (map q rs)
within_map p q h [] = tt
within_map p q h (r ∷ rs) = (h r, within_map p q h rs)

-- where more is accepted, what holds still holds
pub holds_grows : (p q : Requirement → Bool) → ((r : Requirement) → p r ≡ true → q r ≡ true) → (t : Tree) → holds p t ≡ true → holds q t ≡ true
holds_grows p q h t e = truth_grows t (map p (leaves t)) (map q (leaves t)) (within_map p q h (leaves t)) e

-- ---- the sets of a tree

made_truth : (p : ℕ → Bool) (o : Operator) (ls rs : List (List ℕ)) → joined o (met_by p ls) (met_by p rs) ≡ met_by p (join_sets o ls rs)
made_truth p And ls rs = sym (both_mean p ls rs)
made_truth p Or ls rs = sym (either_means p ls rs)

of_made : (o : Operator) (ls rs sets : List (List ℕ)) → made_of o ls rs ≡ Ok sets → join_sets o ls rs ≡ sets
of_made o ls rs sets e = cases (nat_lt 4096 n) refl
  where
    n : ℕ
    n = count_made o (length ls) (length rs)

    cases : (b : Bool) → nat_lt 4096 n ≡ b → join_sets o ls rs ≡ sets
    cases true k =
        let bad : ◌≡◌ {A = Result (List (List ℕ)) ℕ} (Err n) (Ok sets) = sym (ap (λ (z : Bool). cond z (Err n) (Ok (join_sets o ls rs))) k) ∙ e in
        cc
    cases false k =
        let there : ◌≡◌ {A = Result (List (List ℕ)) ℕ} (Ok (join_sets o ls rs)) (Ok sets) = sym (ap (λ (z : Bool). cond z (Err n) (Ok (join_sets o ls rs))) k) ∙ e in
        cc

-- the sets of both sides of an operator
pub record Parts (f : Requirement → ℕ) (o : Operator) (l r : Tree) (sets : List (List ℕ)) : Type 0 where
  pub ls : List (List ℕ)
  pub rs : List (List ℕ)
  pub left : made_by f l ≡ Ok ls
  pub right : made_by f r ≡ Ok rs
  pub is : join_sets o ls rs ≡ sets

pub parts_of : (f : Requirement → ℕ) (o : Operator) (l r : Tree) (sets : List (List ℕ)) → made_by f (Join o l r) ≡ Ok sets → Parts f o l r sets
parts_of f o l r sets e = left (made_by f l) refl
  where
    right : (ls : List (List ℕ)) → made_by f l ≡ Ok ls → (made : Result (List (List ℕ)) ℕ) → made_by f r ≡ made → made_beside o ls made ≡ Ok sets → Parts f o l r sets
    right ls k (Ok rs) m h = record { ls = ls; rs = rs; left = k; right = m; is = of_made o ls rs sets h }
    right ls k (Err n) m h = cc

    left : (made : Result (List (List ℕ)) ℕ) → made_by f l ≡ made → Parts f o l r sets
    left (Ok ls) k =
        right ls k (made_by f r) refl (sym (ap (λ (z : Result (List (List ℕ)) ℕ). made_from o z (made_by f r)) k) ∙ e)
    left (Err n) k =
        let bad : ◌≡◌ {A = Result (List (List ℕ)) ℕ} (Err n) (Ok sets) = sym (ap (λ (z : Result (List (List ℕ)) ℕ). made_from o z (made_by f r)) k) ∙ e in
        cc

one_set : (b : Bool) → b ≡ ((b && true) || false)
one_set true = refl
one_set false = refl

pub made_means : (f : Requirement → ℕ) (p : ℕ → Bool) (t : Tree) (sets : List (List ℕ)) → made_by f t ≡ Ok sets → holds (λ r. p (f r)) t ≡ met_by p sets
made_means f p (Leaf r) sets e =
    let is : (f r ∷ []) ∷ [] ≡ sets = cc in
    one_set (p (f r)) ∙ ap (met_by p) is
made_means f p (Join o l r) sets e =
    let parts = parts_of f o l r sets e in
    let h = λ (q : Requirement). p (f q) in
    holds_join h o l r
    ∙ ap (λ (b : Bool). joined o b (holds h r)) (made_means f p l parts.ls parts.left)
    ∙ ap (λ (b : Bool). joined o (met_by p parts.ls) b) (made_means f p r parts.rs parts.right)
    ∙ made_truth p o parts.ls parts.rs
    ∙ ap (met_by p) parts.is

join_apart : (o : Operator) (ls rs : List (List ℕ)) → AreApart ls → AreApart rs → AreApart (join_sets o ls rs)
join_apart And ls rs h k = both_apart ls rs
join_apart Or ls rs h k = either_apart ls rs h k

pub made_apart : (f : Requirement → ℕ) (t : Tree) (sets : List (List ℕ)) → made_by f t ≡ Ok sets → AreApart sets
made_apart f (Leaf r) sets e =
    let is : (f r ∷ []) ∷ [] ≡ sets = cc in
    subst AreApart is (refl, tt)
made_apart f (Join o l r) sets e =
    let parts = parts_of f o l r sets e in
    subst AreApart parts.is (join_apart o parts.ls parts.rs (made_apart f l parts.ls parts.left) (made_apart f r parts.rs parts.right))

-- ---- places

same_itself : (r : Requirement) → same_requirement r r ≡ true
same_itself r = (requirements_decide r r).1 refl

pub same_with : (q r s : Requirement) → same_requirement r s ≡ true → same_requirement q r ≡ same_requirement q s
same_with q r s e =
    let keys = (requirements_decide r s).0 e in
    same_truth (same_requirement q r) (same_requirement q s)
    (λ h. (requirements_decide q s).1 ((requirements_decide q r).0 h ∙ keys))
    (λ h. (requirements_decide q r).1 ((requirements_decide q s).0 h ∙ sym keys))

pub place_same : (qs : List Requirement) (r s : Requirement) → same_requirement r s ≡ true → place_in qs r ≡ place_in qs s
place_same [] r s e = refl
place_same (q ∷ qs) r s e =
    ap (λ (b : Bool). cond b 0 (place_in qs r + 1)) (same_with q r s e) ∙ ap (λ (n : ℕ). cond (same_requirement q s) 0 (n + 1)) (place_same qs r s e)

later : (q : Requirement) (qs : List Requirement) (h : Requirement → Bool) (n : ℕ) → answer_at (q ∷ qs) h (n + 1) ≡ answer_at qs h n
later q qs h n = ap (answer_at (q ∷ qs) h) (let e : n + 1 ≡ suc n = omega arith in e)

-- the answer at the place is that of the requirement
pub found_answer : (h : Requirement → Bool) → IsAcceptance h → (qs : List Requirement) (r : Requirement) → list_any (λ q. same_requirement q r) qs ≡ true → answer_at qs h (place_in qs r) ≡ h r
found_answer h ok [] r e = let bad : false ≡ true = e in cc
found_answer h ok (q ∷ qs) r e = cases (same_requirement q r) refl (found_answer h ok qs r)
  where
    cases : (b : Bool) → same_requirement q r ≡ b → (list_any (λ q. same_requirement q r) qs ≡ true → answer_at qs h (place_in qs r) ≡ h r) → answer_at (q ∷ qs) h (cond b 0 (place_in qs r + 1)) ≡ h r
    cases true k more = ok q r k
    cases false k more = later q qs h (place_in qs r) ∙ more (sym (ap (λ (b : Bool). b || list_any (λ q. same_requirement q r) qs) k) ∙ e)

-- what is accepted at the place is accepted
pub accepted_there : (h : Requirement → Bool) → IsAcceptance h → (qs : List Requirement) (r : Requirement) → answer_at qs h (place_in qs r) ≡ true → h r ≡ true
accepted_there h ok [] r e = let bad : false ≡ true = e in cc
accepted_there h ok (q ∷ qs) r e = cases (same_requirement q r) refl (accepted_there h ok qs r) e
  where
    cases : (b : Bool) → same_requirement q r ≡ b → (answer_at qs h (place_in qs r) ≡ true → h r ≡ true) → answer_at (q ∷ qs) h (cond b 0 (place_in qs r + 1)) ≡ true → h r ≡ true
    cases true k more at = sym (ok q r k) ∙ at
    cases false k more at = more (sym (later q qs h (place_in qs r)) ∙ at)

pub among_found : (qs : List Requirement) (r : Requirement) → Among qs r → list_any (λ q. same_requirement q r) qs ≡ true
among_found qs r there = cases (list_any (λ q. same_requirement q r) qs) refl
  where
    cases : (b : Bool) → list_any (λ q. same_requirement q r) qs ≡ b → b ≡ true
    cases true e = refl
    cases false e =
        let none = there (λ q. not (same_requirement q r)) (none_passes (λ q. same_requirement q r) qs e) in
        let bad : false ≡ true = sym (ap not (same_itself r)) ∙ none in
        cc

answers_same : (h : Requirement → Bool) → IsAcceptance h → (qs rs : List Requirement) → ((r : Requirement) → Among rs r → list_any (λ q. same_requirement q r) qs ≡ true) → map h rs ≡ map (λ r. answer_at qs h (place_in qs r)) rs
answers_same h ok qs [] there = refl
answers_same h ok qs (r ∷ rs) there =
    let first = found_answer h ok qs r (there r (λ q e. and_first (q r) (list_all q rs) e)) in
    let more = answers_same h ok qs rs (λ s in_rs. there s (λ q e. in_rs q (and_second (q r) (list_all q rs) e))) in
    ap (λ (b : Bool). b ∷ map h rs) (sym first) ∙ ap (λ (z : List Bool). answer_at qs h (place_in qs r) ∷ z) more

-- a tree holds exactly if all of one of its least sets is accepted
pub in_means : (t : Tree) (sets : List (List ℕ)) → made_in t ≡ Ok sets → (h : Requirement → Bool) → IsAcceptance h → holds h t ≡ met_by (answer_at (leaves t) h) sets
in_means t sets e h ok =
    let qs = leaves t in
    holds_same h (λ r. answer_at qs h (place_in qs r)) t (answers_same h ok qs qs (λ r there. among_found qs r there))
    ∙ made_means (place_in qs) (answer_at qs h) t sets e

-- ---- asking

includes_itself : (s : List ℕ) → includes s s ≡ true
includes_itself s = all_from (is_in s) s (λ k there. found k there (is_in s k) refl)
  where
    found : (k : ℕ) → Among s k → (b : Bool) → is_in s k ≡ b → b ≡ true
    found k there true e = refl
    found k there false e = absurd (missing k (there (λ x. not (x == k)) (none_passes (λ x. x == k) s e)))
      where
        missing : (k : ℕ) → not (k == k) ≡ true → ⊥
        missing k e = let bad : false ≡ true = sym (ap not (eq-eqb k k refl)) ∙ e in cc

pub met_itself : (sets : List (List ℕ)) (s : List ℕ) → Among sets s → met_by (is_in s) sets ≡ true
met_itself sets s there = cases (met_by (is_in s) sets) refl
  where
    cases : (b : Bool) → met_by (is_in s) sets ≡ b → b ≡ true
    cases true e = refl
    cases false e =
        let none = there (λ m. not (list_all (is_in s) m)) (none_passes (list_all (is_in s)) sets e) in
        let bad : false ≡ true = sym (ap not (includes_itself s)) ∙ none in
        cc

module _ (t u : Tree) (sets : List (List ℕ)) (e : made_in t ≡ Ok sets) where
  -- the other tree holds where the places of the set are accepted
  abbrev pub MakesHold : List ℕ → Bool
  MakesHold s = holds (λ r. is_in s (place_in (leaves t) r)) u

  pub asks_forth : AsksAtLeast t u → list_all MakesHold sets ≡ true
  asks_forth asks = all_from MakesHold sets (λ s there.
      let f = place_in (leaves t) in
      asks (λ r. is_in s (f r)) (λ r q same. ap (is_in s) (place_same (leaves t) r q same))
      (made_means f (is_in s) t sets e ∙ met_itself sets s there))

  pub asks_back : list_all MakesHold sets ≡ true → AsksAtLeast t u
  asks_back all h ok there =
      let qs = leaves t in
      let one = some_passes (list_all (answer_at qs h)) sets (sym (in_means t sets e h ok) ∙ there) in
      holds_grows (λ r. is_in one.0 (place_in qs r)) h (λ r k. accepted_there h ok qs r (in_passes (answer_at qs h) one.0 (place_in qs r) one.1 k)) u (one.3 MakesHold all)

-- the test of a set, over the places of the other tree's requirements
test_is : (f : Requirement → ℕ) (u : Tree) (s : List ℕ) → truth_of u (map (is_in s) (map f (leaves u))) ≡ holds (λ r. is_in s (f r)) u
test_is f u s = ap (truth_of u) (each (leaves u))
  where
    each : (rs : List Requirement) → map (is_in s) (map f rs) ≡ map (λ r. is_in s (f r)) rs
    each [] = refl
    each (r ∷ rs) = ap (λ (z : List Bool). is_in s (f r) ∷ z) (each rs)

pub tests_are : (t u : Tree) (sets : List (List ℕ)) → find (λ s. not (truth_of u (map (is_in s) (map (place_in (leaves t)) (leaves u))))) sets ≡ find (is_unmet t u) sets
tests_are t u [] = refl
tests_are t u (s ∷ ss) =
    let f = place_in (leaves t) in
    ap (λ (b : Bool). cond (not b) (Some s) (find (λ s. not (truth_of u (map (is_in s) (map f (leaves u))))) ss)) (test_is f u s)
    ∙ ap (λ (found : Option (List ℕ)). cond (is_unmet t u s) (Some s) found) (tests_are t u ss)

-- where no set fails a test, each passes
pub none_found : (q : List ℕ → Bool) (ss : List (List ℕ)) → is_none (find (λ s. not (q s)) ss) ≡ list_all q ss
none_found q [] = refl
none_found q (s ∷ ss) = step (q s) (none_found q ss)
  where
    step : (b : Bool) → is_none (find (λ s. not (q s)) ss) ≡ list_all q ss → is_none (cond (not b) (Some s) (find (λ s. not (q s)) ss)) ≡ (b && list_all q ss)
    step true h = h
    step false h = refl

-- what `is_none` answers of what is told as something else
pub none_told : {A B : Type 0} (f : A → B) (found : Option A) (b : Bool) → is_some found ≡ not b → b ≡ is_none (option_map f found)
none_told f None true e = refl
none_told f None false e = let bad : false ≡ true = e in cc
none_told f (Some x) true e = let bad : true ≡ false = e in cc
none_told f (Some x) false e = refl

-- equivalent exactly if both ask
pub both_ask : (t u : Tree) → AsksAtLeast t u → AsksAtLeast u t → IsEquivalent t u
both_ask t u a b h ok = same_truth (holds h t) (holds h u) (a h ok) (b h ok)

pub equivalent_asks : (t u : Tree) → IsEquivalent t u → AsksAtLeast t u × AsksAtLeast u t
equivalent_asks t u same = ((λ h ok e. sym (same h ok) ∙ e), (λ h ok e. same h ok ∙ e))
