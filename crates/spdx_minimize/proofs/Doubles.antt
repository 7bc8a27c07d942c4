-- Lists with the same members pass the same tests, and so have one choice.
use Rattle.std.proofs.Common.{◌≡◌, Bool, true, false, cond, nat_lt, List, [], ◌∷◌, ◌||◌, ◌&&◌, length, refl, sym, ◌∙◌, ap}
use Rattle.std.specs.Prelude.{Contains}
use Rattle.std.specs.List.{list_any, list_all, filter}
use Rattle.std.proofs.lemmas.List.Folds.{Any-from_list_any, list_any_at}
use Rattle.spdx_requirement.specs.Items.{Requirement}
use Rattle.spdx_licensee.specs.Satisfies.{satisfies}
use Rattle.spdx_parser.specs.Tree.{Tree, leaves}
use Rattle.spdx_minimize.specs.Choice.{too_many, first_ones, satisfies_some, useful, any_chosen, suffices_for, choice_among, least_of, choice_of}
use Rattle.spdx_minimize.proofs.Chooses.{choice_by}
use Rattle.spdx_evaluation.specs.Truth.{holds}
use Rattle.spdx_minimize.specs.Doubles.{SameMembers}

same_truth : (a b : Bool) → (a ≡ true → b ≡ true) → (b ≡ true → a ≡ true) → a ≡ b
same_truth true b f g = sym (f refl)
same_truth false true f g = g refl
same_truth false false f g = refl

module _ {A : Type 0} (p : A → Bool) where
  -- what a member passes, some element passes
  some_of : (xs : List A) (x : A) → Contains xs x → p x ≡ true → list_any p xs ≡ true
  some_of xs x (k, lt, is) e = list_any_at p xs k x lt (ap p is ∙ e)

  some_member : (xs : List A) → list_any p xs ≡ true → (x : A) × Contains xs x × (p x ≡ true)
  some_member xs e = let (k, x, lt, is, h) = Any-from_list_any p xs e in (x, (k, lt, is), h)

  some_more : (xs ys : List A) → ((x : A) → Contains xs x → Contains ys x) → list_any p xs ≡ true → list_any p ys ≡ true
  some_more xs ys within e = let (x, among, h) = some_member xs e in some_of ys x (within x among) h

  pub some_same : (xs ys : List A) → SameMembers xs ys → list_any p xs ≡ list_any p ys
  some_same xs ys same = same_truth _ _ (some_more xs ys (λ x. (same x).0)) (some_more ys xs (λ x. (same x).1))

-- all pass a test where none fails it
abbrev fails : {A : Type 0} → (A → Bool) → A → Bool
fails p x = elim (p x) [ true ↦ false | false ↦ true ]

all_by_none : (b : Bool) (rest : Bool) → (b && elim rest [ true ↦ false | false ↦ true ]) ≡ (elim (elim b [ true ↦ false | false ↦ true ] || rest) [ true ↦ false | false ↦ true ])
all_by_none true rest = refl
all_by_none false rest = refl

all_is_none : {A : Type 0} (p : A → Bool) (xs : List A) → list_all p xs ≡ elim (list_any (fails p) xs) [ true ↦ false | false ↦ true ]
all_is_none p [] = refl
all_is_none p (x ∷ xs) = ap (λ b. p x && b) (all_is_none p xs) ∙ all_by_none (p x) (list_any (fails p) xs)

pub all_same : {A : Type 0} (p : A → Bool) (xs ys : List A) → SameMembers xs ys → list_all p xs ≡ list_all p ys
all_same p xs ys same =
    all_is_none p xs ∙ ap (λ (b : Bool). elim b [ true ↦ false | false ↦ true ]) (some_same (fails p) xs ys same) ∙ sym (all_is_none p ys)

module _ (trees others : List Tree) (same : SameMembers trees others) where
  satisfies_same : (licensee : Requirement) → satisfies_some trees licensee ≡ satisfies_some others licensee
  satisfies_same licensee = some_same (λ t. list_any (satisfies licensee) (leaves t)) trees others same

  suffices_same : (members : List Requirement) (selection : List Bool) → suffices_for trees members selection ≡ suffices_for others members selection
  suffices_same members selection = all_same (holds (any_chosen members selection)) trees others same

  satisfies_is : satisfies_some trees ≡ satisfies_some others
  satisfies_is = λ i licensee. satisfies_same licensee i

  suffices_is : (members : List Requirement) → suffices_for trees members ≡ suffices_for others members
  suffices_is members = λ i selection. suffices_same members selection i

  among_same : (members : List Requirement) → choice_among trees members ≡ choice_among others members
  among_same members =
      ap (λ (suffices : List Bool → Bool). cond (nat_lt 1024 (length members)) (too_many (length members)) (choice_by members (least_of suffices (length members)))) (suffices_is members)

  pub choice_same : (licensees : List Requirement) → choice_of trees licensees ≡ choice_of others licensees
  choice_same licensees =
      ap (λ (test : Requirement → Bool). choice_among trees (filter test (first_ones [] licensees))) satisfies_is ∙ among_same (useful others licensees)
