-- Where there is one choice for all, each expression has one among the licensees that are in it.
use Rattle.std.proofs.Common.{◌≡◌, ℕ, zero, suc, ◌≤◌, Bool, true, false, ◌&&◌, ◌||◌, cond, nat_lt, List, [], ◌∷◌, ◌++◌, Option, Some, None, length, map, refl, sym, ◌∙◌, ap, subst, arith}
use Rattle.std.specs.List.{list_any, list_all, filter, find}
use Rattle.std.proofs.lemmas.List.{append-nil}
use Rattle.std.proofs.lemmas.List.Elements.{filter-append}
use Rattle.std.proofs.lemmas.Map.Views.{any-filter_same}
use Rattle.std.proofs.lemmas.Bool.Decides.{nat_tests}
use Rattle.spdx_requirement.specs.Items.{Requirement}
use Rattle.spdx_requirement.specs.Equality.{same_requirement}
use Rattle.spdx_requirement.specs.EqualityLaws.{same_requirement_laws}
use Rattle.spdx_licensee.specs.Satisfies.{satisfies}
use Rattle.spdx_parser.specs.Tree.{Tree, leaves}
use Rattle.selections.specs.Selection.{IsWithin, everything}
use Rattle.spdx_evaluation.specs.Truth.{holds}
use Rattle.spdx_minimize.specs.Choice.{Choice, chosen, unmet, too_many, choice_among, choice_of, chosen_of, any_chosen, suffices_for, satisfies_some, first_ones, useful, selections, without_and_with, least_of}
use Rattle.spdx_minimize.proofs.Chooses.{choice_by}
use Rattle.spdx_minimize.specs.GrowthLaws.{truth_grows}
use Rattle.package_choices.specs.Accepted.{own_choice, those_in}
use Rattle.package_choices.specs.Refusals.{AreChosen}

or_true : (a b : Bool) → b ≡ true → (a || b) ≡ true
or_true true b e = refl
or_true false b e = e

or_first : (a b : Bool) → a ≡ true → (a || b) ≡ true
or_first true b e = refl
or_first false b e = let bad : false ≡ true = e in cc

and_parts : (a b : Bool) → (a && b) ≡ true → (a ≡ true) × (b ≡ true)
and_parts true b e = (refl, e)
and_parts false b e = let bad : false ≡ true = e in cc

-- P of each element
abbrev Each : {A : Type 0} → (A → Type 0) → List A → Type 0
Each P [] = Unit {0}
Each P (x ∷ xs) = P x × Each P xs

each_map : {A : Type 0} (P Q : A → Type 0) → ((x : A) → P x → Q x) → (xs : List A) → Each P xs → Each Q xs
each_map P Q h [] e = tt
each_map P Q h (x ∷ xs) e = (h x e.0, each_map P Q h xs e.1)

-- what an element passes, some element passes
each_found : {A B : Type 0} (g : B → A → Bool) (xs : List A) → Each (λ x. (m : B) → g m x ≡ true → list_any (g m) xs ≡ true) xs
each_found g [] = tt
each_found g (x ∷ xs) = (
  (λ m e. or_first (g m x) (list_any (g m) xs) e),
  each_map _ _ (λ y h m e. or_true (g m x) (list_any (g m) xs) (h m e)) xs (each_found g xs),
)

module _ (keeps : Requirement → Bool) (respects : (a b : Requirement) → same_requirement a b ≡ true → keeps a ≡ keeps b) where
  -- the first ones of those that are kept are the kept ones of the first ones
  first_kept : (before xs : List Requirement) → first_ones (filter keeps before) (filter keeps xs) ≡ filter keeps (first_ones before xs)
  first_kept before [] = refl
  first_kept before (r ∷ rs) =
      let seen = list_any (λ b. same_requirement b r) before in
      let rest = first_ones (before ++ r ∷ []) rs in
      let whole : filter keeps (first_ones before (r ∷ rs)) ≡ filter keeps (cond seen [] (r ∷ [])) ++ filter keeps rest = filter-append keeps (cond seen [] (r ∷ [])) rest in
      elim (keeps r) as (λ (b : Bool). keeps r ≡ b → first_ones (filter keeps before) (cond b (r ∷ filter keeps rs) (filter keeps rs)) ≡ filter keeps (first_ones before (r ∷ rs))) [
        | true ↦ λ is.
            let told : list_any (λ b. same_requirement b r) (filter keeps before) ≡ seen = any-filter_same (λ b. same_requirement b r) keeps true (λ k e. respects k r e ∙ is) before in
            let behind : filter keeps before ++ r ∷ [] ≡ filter keeps (before ++ r ∷ []) = ap (λ (b : Bool). filter keeps before ++ cond b (r ∷ []) []) (sym is) ∙ sym (filter-append keeps before (r ∷ [])) in
            let one : filter keeps (cond seen [] (r ∷ [])) ≡ cond seen [] (r ∷ []) = elim seen as (λ (b : Bool). filter keeps (cond b [] (r ∷ [])) ≡ cond b [] (r ∷ [])) [ true ↦ refl | false ↦ ap (λ (b : Bool). cond b (r ∷ []) []) is ] in
            ap (λ (b : Bool). cond b [] (r ∷ []) ++ first_ones (filter keeps before ++ r ∷ []) (filter keeps rs)) told
            ∙ ap (λ (z : List Requirement). cond seen [] (r ∷ []) ++ first_ones z (filter keeps rs)) behind
            ∙ ap (λ (z : List Requirement). cond seen [] (r ∷ []) ++ z) (first_kept (before ++ r ∷ []) rs)
            ∙ ap (λ (z : List Requirement). z ++ filter keeps rest) (sym one)
            ∙ sym whole
        | false ↦ λ is.
            let behind : filter keeps before ≡ filter keeps (before ++ r ∷ []) = sym (append-nil (filter keeps before)) ∙ ap (λ (b : Bool). filter keeps before ++ cond b (r ∷ []) []) (sym is) ∙ sym (filter-append keeps before (r ∷ [])) in
            let none : filter keeps (cond seen [] (r ∷ [])) ≡ [] = elim seen as (λ (b : Bool). filter keeps (cond b [] (r ∷ [])) ≡ []) [ true ↦ refl | false ↦ ap (λ (b : Bool). cond b (r ∷ []) []) is ] in
            ap (λ (z : List Requirement). first_ones z (filter keeps rs)) behind
            ∙ first_kept (before ++ r ∷ []) rs
            ∙ ap (λ (z : List Requirement). z ++ filter keeps rest) (sym none)
            ∙ sym whole
      ] refl

le_more : (n : ℕ) (b : Bool) (x : Requirement) (ys : List Requirement) → n ≤ length ys → n ≤ length (cond b (x ∷ ys) ys)
le_more n true x ys h = omega (arith, h)
le_more n false x ys h = h

-- those that pass more tests are no more
shorter : (p q s : Requirement → Bool) → ((m : Requirement) → p m ≡ true → q m ≡ true) → (xs : List Requirement) → length (filter p (filter s xs)) ≤ length (filter q xs)
shorter p q s h [] = omega arith
shorter p q s h (x ∷ xs) =
    let so_far = shorter p q s h xs in
    elim (s x) as (λ (b : Bool). length (filter p (cond b (x ∷ filter s xs) (filter s xs))) ≤ length (filter q (x ∷ xs))) [
      | false ↦ le_more _ (q x) x (filter q xs) so_far
      | true ↦ elim (p x) as (λ (b : Bool). p x ≡ b → length (cond b (x ∷ filter p (filter s xs)) (filter p (filter s xs))) ≤ length (filter q (x ∷ xs))) [
        | false ↦ λ is. le_more _ (q x) x (filter q xs) so_far
        | true ↦ λ is. subst (λ (b : Bool). length (x ∷ filter p (filter s xs)) ≤ length (cond b (x ∷ filter q xs) (filter q xs))) (sym (h x is)) (omega (arith, so_far))
      ] refl
    ]

module _ (p kept sat : Requirement → Bool) (h : (m : Requirement) → p m ≡ true → sat m ≡ true) where
  here : (x : Requirement) (xs : List Requirement) → p x ≡ true → kept x ≡ true → sat x ≡ true → list_any p (filter sat (filter kept (x ∷ xs))) ≡ true
  here x xs is k s =
      ap (λ (b : Bool). list_any p (filter sat (cond b (x ∷ filter kept xs) (filter kept xs)))) k
      ∙ ap (λ (b : Bool). list_any p (cond b (x ∷ filter sat (filter kept xs)) (filter sat (filter kept xs)))) s
      ∙ ap (λ (b : Bool). b || list_any p (filter sat (filter kept xs))) is

  later : (x : Requirement) (xs : List Requirement) → list_any p (filter sat (filter kept xs)) ≡ true → list_any p (filter sat (filter kept (x ∷ xs))) ≡ true
  later x xs e = elim (kept x) as (λ (b : Bool). list_any p (filter sat (cond b (x ∷ filter kept xs) (filter kept xs))) ≡ true) [
    | true ↦ elim (sat x) as (λ (b : Bool). list_any p (cond b (x ∷ filter sat (filter kept xs)) (filter sat (filter kept xs))) ≡ true) [ true ↦ or_true (p x) _ e | false ↦ e ]
    | false ↦ e
  ]

  at_head : (x : Requirement) (xs ys : List Requirement) → ((s : List Bool) → Each (λ m. kept m ≡ true) (chosen_of ys s) → list_any p (chosen_of ys s) ≡ true → list_any p (filter sat (filter kept xs)) ≡ true)
      → (s : List Bool) → Each (λ m. kept m ≡ true) (chosen_of (x ∷ ys) s) → list_any p (chosen_of (x ∷ ys) s) ≡ true → list_any p (filter sat (filter kept (x ∷ xs))) ≡ true
  at_head x xs ys ih [] each e = let bad : false ≡ true = e in cc
  at_head x xs ys ih (false ∷ bs) each e = later x xs (ih bs each e)
  at_head x xs ys ih (true ∷ bs) each e =
      elim (p x) as (λ (b : Bool). p x ≡ b → (b || list_any p (chosen_of ys bs)) ≡ true → list_any p (filter sat (filter kept (x ∷ xs))) ≡ true) [
        | true ↦ λ is f. here x xs is each.0 (h x is)
        | false ↦ λ is f. later x xs (ih bs each.1 f)
      ] refl e

  -- a chosen member that passes is still there
  one_kept : (q : Requirement → Bool) (xs : List Requirement) (s : List Bool) → Each (λ m. kept m ≡ true) (chosen_of (filter q xs) s) → list_any p (chosen_of (filter q xs) s) ≡ true → list_any p (filter sat (filter kept xs)) ≡ true
  one_kept q [] s each e = let bad : false ≡ true = e in cc
  one_kept q (x ∷ xs) s each e =
      elim (q x) as (λ (b : Bool). Each (λ m. kept m ≡ true) (chosen_of (cond b (x ∷ filter q xs) (filter q xs)) s) → list_any p (chosen_of (cond b (x ∷ filter q xs) (filter q xs)) s) ≡ true → list_any p (filter sat (filter kept (x ∷ xs))) ≡ true) [
        | true ↦ λ k f. at_head x xs (filter q xs) (λ z. one_kept q xs z) s k f
        | false ↦ λ k f. later x xs (one_kept q xs s k f)
      ] each e

any_in_chosen : (ms : List Requirement) (s : List Bool) (r : Requirement) → any_chosen ms s r ≡ list_any (λ m. satisfies m r) (chosen_of ms s)
any_in_chosen [] s r = refl
any_in_chosen (m ∷ ms) [] r = refl
any_in_chosen (m ∷ ms) (true ∷ bs) r = ap (λ (b : Bool). satisfies m r || b) (any_in_chosen ms bs r)
any_in_chosen (m ∷ ms) (false ∷ bs) r = any_in_chosen ms bs r

any_of_all : (ms : List Requirement) (r : Requirement) → any_chosen ms (everything (length ms)) r ≡ list_any (λ m. satisfies m r) ms
any_of_all [] r = refl
any_of_all (m ∷ ms) r = ap (λ (b : Bool). satisfies m r || b) (any_of_all ms r)

within_each : (p q : Requirement → Bool) (rs : List Requirement) → Each (λ r. p r ≡ true → q r ≡ true) rs → IsWithin (map p rs) (map q rs)
within_each p q [] e = tt
within_each p q (r ∷ rs) e = (e.0, within_each p q rs e.1)

-- the selection of all is among the selections
wider : (p : List Bool → Bool) (ss : List (List Bool)) → list_any (λ s. p (true ∷ s)) ss ≡ true → list_any p (without_and_with ss) ≡ true
wider p [] e = e
wider p (s ∷ ss) e =
    let more = list_any p (without_and_with ss) in
    or_true (p (false ∷ s)) (p (true ∷ s) || more)
    (elim (p (true ∷ s)) as (λ (b : Bool). (b || list_any (λ z. p (true ∷ z)) ss) ≡ true → (b || more) ≡ true) [ true ↦ λ f. refl | false ↦ λ f. wider p ss f ] e)

all_among : (n : ℕ) (p : List Bool → Bool) → p (everything n) ≡ true → list_any p (selections n) ≡ true
all_among zero p e = or_first (p []) false e
all_among (suc n) p e = wider p (selections n) (all_among n (λ s. p (true ∷ s)) e)

found : (p : List Bool → Bool) (ss : List (List Bool)) → list_any p ss ≡ true → (s : List Bool) × (find p ss ≡ Some s)
found p [] e = let bad : false ≡ true = e in cc
found p (s ∷ ss) e = elim (p s) as (λ (b : Bool). (b || list_any p ss) ≡ true → (z : List Bool) × (cond b (Some s) (find p ss) ≡ Some z)) [ true ↦ λ f. (s, refl) | false ↦ λ f. found p ss f ] e

-- where all members suffice, there is a choice among them
there_is : (trees : List Tree) (ms : List Requirement) → nat_lt 1024 (length ms) ≡ false → suffices_for trees ms (everything (length ms)) ≡ true → (rs : List Requirement) × (choice_among trees ms ≡ chosen rs)
there_is trees ms few all =
    let (s, is) = found (suffices_for trees ms) (selections (length ms)) (all_among (length ms) (suffices_for trees ms) all) in (
      chosen_of ms s,
      ap (λ (b : Bool). cond b (too_many (length ms)) (choice_by ms (least_of (suffices_for trees ms) (length ms)))) few ∙ ap (choice_by ms) is,
    )

found_suffices : (p : List Bool → Bool) (ss : List (List Bool)) (s : List Bool) → find p ss ≡ Some s → p s ≡ true
found_suffices p [] s e = cc
found_suffices p (z ∷ zs) s e = elim (p z) as (λ (b : Bool). p z ≡ b → cond b (Some z) (find p zs) ≡ Some s → p s ≡ true) [
  | true ↦ λ is f. let same : z ≡ s = cc in ap p (sym same) ∙ is
  | false ↦ λ is f. found_suffices p zs s f
] refl e

parted : (b : Bool) (n : ℕ) (ms : List Requirement) (o : Option (List Bool)) (rs : List Requirement) → cond b (too_many n) (choice_by ms o) ≡ chosen rs → (s : List Bool) × (b ≡ false) × (o ≡ Some s) × (chosen_of ms s ≡ rs)
parted true n ms o rs e = let bad : too_many n ≡ chosen rs = e in cc
parted false n ms None rs e = let bad : unmet ≡ chosen rs = e in cc
parted false n ms (Some s) rs e = let same : chosen (chosen_of ms s) ≡ chosen rs = e in (s, refl, refl, cc)

few_still : (m n : ℕ) → m ≤ n → nat_lt 1024 n ≡ false → nat_lt 1024 m ≡ false
few_still m n h e = grind (arith, nat_tests, h, e)

any_respects : (rs : List Requirement) (a b : Requirement) → same_requirement a b ≡ true → list_any (λ r. same_requirement r a) rs ≡ list_any (λ r. same_requirement r b) rs
any_respects [] a b e = refl
any_respects (r ∷ rs) a b e =
    let one : same_requirement r a ≡ same_requirement r b = same_requirement_laws.symm r a ∙ same_requirement_laws.congr a b r e ∙ same_requirement_laws.symm b r in
    ap (λ (x : Bool). x || list_any (λ z. same_requirement z a) rs) one ∙ ap (λ (x : Bool). same_requirement r b || x) (any_respects rs a b e)

or_alone : (a b : Bool) → (a || false) ≡ true → (a || b) ≡ true
or_alone true b e = refl
or_alone false b e = let bad : false ≡ true = e in cc

module _ (trees : List Tree) (licensees joint : List Requirement) (s : List Bool) (is : chosen_of (useful trees licensees) s ≡ joint) (few : nat_lt 1024 (length (useful trees licensees)) ≡ false) where
  -- an expression that the joint choice makes true has a choice of its own in it
  own_there : (t : Tree) → holds (any_chosen (useful trees licensees) s) t ≡ true → ((m : Requirement) → satisfies_some (t ∷ []) m ≡ true → satisfies_some trees m ≡ true)
      → (rs : List Requirement) × (own_choice (those_in joint licensees) t ≡ chosen rs)
  own_there t true_there within =
      let firsts = first_ones [] licensees in
      let kept : Requirement → Bool = λ l. list_any (λ r. same_requirement r l) joint in
      let sat : Requirement → Bool = satisfies_some (t ∷ []) in
      let ms = filter sat (filter kept firsts) in
      let same : useful (t ∷ []) (those_in joint licensees) ≡ ms = ap (filter sat) (first_kept kept (any_respects joint) [] licensees) in
      let few_ms : nat_lt 1024 (length ms) ≡ false = few_still (length ms) (length (useful trees licensees)) (shorter sat (satisfies_some trees) kept within firsts) few in
      let in_joint : Each (λ m. kept m ≡ true) joint = each_map (λ x. (m : Requirement) → same_requirement x m ≡ true → kept m ≡ true) (λ m. kept m ≡ true) (λ m h. h m (same_requirement_laws.refl m)) joint (each_found (λ m r. same_requirement r m) joint) in
      let in_chosen : Each (λ m. kept m ≡ true) (chosen_of (filter (satisfies_some trees) firsts) s) = subst (λ (z : List Requirement). Each (λ m. kept m ≡ true) z) (sym is) in_joint in
      let each_leaf : Each (λ r. any_chosen (useful trees licensees) s r ≡ true → any_chosen ms (everything (length ms)) r ≡ true) (leaves t) =
      each_map (λ r. (m : Requirement) → satisfies m r ≡ true → list_any (satisfies m) (leaves t) ≡ true) _
      (λ r h e. any_of_all ms r ∙ one_kept (λ m. satisfies m r) kept sat (λ m f. or_first (list_any (satisfies m) (leaves t)) false (h m f)) (satisfies_some trees) firsts s in_chosen (sym (any_in_chosen (useful trees licensees) s r) ∙ e))
      (leaves t) (each_found satisfies (leaves t)) in
      let holds_all : holds (any_chosen ms (everything (length ms))) t ≡ true =
      truth_grows t (map (any_chosen (useful trees licensees) s) (leaves t)) (map (any_chosen ms (everything (length ms))) (leaves t)) (within_each _ _ (leaves t) each_leaf) true_there in
      let there = there_is (t ∷ []) ms few_ms (ap (λ (b : Bool). b && true) holds_all) in
      (there.0, ap (choice_among (t ∷ [])) same ∙ there.1)

  all_own : (ts : List Tree) → list_all (holds (any_chosen (useful trees licensees) s)) ts ≡ true → ((m : Requirement) → satisfies_some ts m ≡ true → satisfies_some trees m ≡ true)
      → AreChosen (map (own_choice (those_in joint licensees)) ts)
  all_own [] e h = ([], refl)
  all_own (t ∷ ts) e h =
      let both = and_parts _ _ e in
      let one = own_there t both.0 (λ m f. h m (or_alone (list_any (satisfies m) (leaves t)) (satisfies_some ts m) f)) in
      let more = all_own ts both.1 (λ m f. h m (or_true (list_any (satisfies m) (leaves t)) (satisfies_some ts m) f)) in (
        one.0 ∷ more.0,
        ap (λ (z : Choice). z ∷ map (own_choice (those_in joint licensees)) ts) one.1 ∙ ap (λ (z : List Choice). chosen one.0 ∷ z) more.1,
      )

pub enough : (trees : List Tree) (licensees joint : List Requirement) → choice_of trees licensees ≡ chosen joint → AreChosen (map (own_choice (those_in joint licensees)) trees)
enough trees licensees joint e =
    let us = useful trees licensees in
    let (s, few, is, named) = parted (nat_lt 1024 (length us)) (length us) us (least_of (suffices_for trees us) (length us)) joint e in
    all_own trees licensees joint s named few trees (found_suffices (suffices_for trees us) (selections (length us)) s is) (λ m f. f)
