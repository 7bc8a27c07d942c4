-- What is kept of the trees of accepted lines, and what stands behind all of them.
use Rattle.std.proofs.Common.{◌≡◌, ℕ, ◌<◌, Result, Ok, Err, OnOk, length, get_or, map, codes, append_assoc, List, [], ◌∷◌, ◌++◌, inl, inr, All, sym, ◌∙◌, ap, subst, append-nil, arith}
use Rattle.std.specs.Prelude.{Contains}
use Rattle.std.specs.List.{flat_map}
use Rattle.std.proofs.lemmas.List.{length-map, get_or-map}
use Rattle.std.proofs.lemmas.Grind.{flat_map-append}
use Rattle.std.proofs.lemmas.List.Elements.{All-nil, All-push, Contains-append_left, Contains-append_right, Contains-append_cases, Contains-push, Contains-push_cases}
use Rattle.spdx_requirement.specs.Rows.{Rows}
use Rattle.spdx_requirement.specs.Items.{Requirement}
use Rattle.spdx_parser.specs.Tree.{Tree}
use Rattle.spdx_parser.specs.Meaning.{IsOfRows}
use Rattle.spdx_minimize.specs.Choice.{Choice, choice_of}
use Rattle.spdx_minimize.specs.Doubles.{SameMembers}
use Rattle.spdx_minimize.proofs.Doubles.{choice_same}
use Rattle.spdx_lines.specs.declared.lines.LineMode.{LineMode}
use Rattle.spdx_lines.specs.Verdict.{Accepted, tree_in, choice_text, all_text}
use Rattle.spdx_lines.specs.Lines.{ClosesAlike}
use Rattle.spdx_lines.specs.Found.{verdict, accepted_trees, rule_of_all}
use Rattle.spdx_lines.specs.Answer.{AreKept}

pub kept_none : (c : Rows) (kept : List Tree) → kept ≡ [] → AreKept c kept []
kept_none c kept e = subst (λ xs. AreKept c xs []) (sym e) (record { same = λ x. (λ h. h, λ h. h); rows_are = All-nil (IsOfRows c) })

-- one that is kept already
pub kept_again : (c : Rows) (kept trees : List Tree) (t : Tree) → AreKept c kept trees → Contains kept t → AreKept c kept (trees ++ t ∷ [])
kept_again c kept trees t h there = record {
  same = λ x. (
    λ among. Contains-append_left trees (t ∷ []) x ((h.same x).0 among),
    λ among. elim (Contains-push_cases trees t x among) [
      | inl before ↦ (h.same x).1 before
      | inr is ↦ subst (λ y. Contains kept y) is there
    ],
  );
  rows_are = h.rows_are;
}

-- one more
pub kept_more : (c : Rows) (kept trees : List Tree) (t : Tree) → AreKept c kept trees → All (IsOfRows c) (kept ++ t ∷ []) → AreKept c (kept ++ t ∷ []) (trees ++ t ∷ [])
kept_more c kept trees t h rows = record {
  same = λ x. (
    λ among. elim (Contains-push_cases kept t x among) [
      | inl before ↦ Contains-append_left trees (t ∷ []) x ((h.same x).0 before)
      | inr is ↦ subst (λ y. Contains (trees ++ t ∷ []) y) is (Contains-push trees t)
    ],
    λ among. elim (Contains-push_cases trees t x among) [
      | inl before ↦ Contains-append_left kept (t ∷ []) x ((h.same x).1 before)
      | inr is ↦ subst (λ y. Contains (kept ++ t ∷ []) y) is (Contains-push kept t)
    ],
  );
  rows_are = rows;
}

-- one more at the end, which is of the catalogue as they are
pub kept_pushed : (c : Rows) (kept kept' trees : List Tree) (t : Tree) → kept' ≡ kept ++ t ∷ [] → AreKept c kept trees → IsOfRows c t → AreKept c kept' (trees ++ t ∷ [])
kept_pushed c kept kept' trees t e h row =
    subst (λ xs. AreKept c xs (trees ++ t ∷ [])) (sym e) (kept_more c kept trees t h (All-push (IsOfRows c) kept t h.rows_are row))

-- ---- where they stand

-- what an element gives is among what all of them give
pub given_at : {A B : Type 0} (f : A → B) (xs : List A) (i : ℕ) (x : A) → i < length xs → x ≡ get_or xs i x → Contains (map f xs) (f x)
given_at f xs i x lt e = (i, rw length-map lt, get_or-map f xs i x (f x) lt ∙ ap f (sym e))

pub same_there : (kept : List Tree) (t u : Tree) → Contains kept t → t ≡ u → Contains kept u
same_there kept t u h e = subst (λ x. Contains kept x) e h

pub at_ok : {T E : Type 0} (r : Result T E) (P : Type 0) → P → OnOk r P
at_ok (Ok x) P p = p
at_ok (Err e) P p = tt

-- ---- of one more line

module _ (c : Rows) (mode : LineMode) (lines : List (List ℕ)) (line : List ℕ) where
  one_more : accepted_trees c mode (lines ++ line ∷ []) ≡ accepted_trees c mode lines ++ tree_in (verdict c mode line)
  one_more =
      flat_map-append (λ x. tree_in (verdict c mode x)) lines (line ∷ [])
      ∙ ap (λ ts. accepted_trees c mode lines ++ ts) (append-nil (tree_in (verdict c mode line)))

  pub accepted_more : (t : Tree) (column : List ℕ) → verdict c mode line ≡ Accepted t column → accepted_trees c mode (lines ++ line ∷ []) ≡ accepted_trees c mode lines ++ t ∷ []
  accepted_more t column e = one_more ∙ ap (λ v. accepted_trees c mode lines ++ tree_in v) e

  pub refused_more : tree_in (verdict c mode line) ≡ [] → accepted_trees c mode (lines ++ line ∷ []) ≡ accepted_trees c mode lines
  refused_more e = one_more ∙ ap (λ ts. accepted_trees c mode lines ++ ts) e ∙ append-nil (accepted_trees c mode lines)

-- ---- the line behind all others

pub choice_kept : (c : Rows) (mode : LineMode) (accepted : List Requirement) (kept : List Tree) (lines : List (List ℕ)) → AreKept c kept (accepted_trees c mode lines) →
    choice_of kept accepted ≡ choice_of (accepted_trees c mode lines) accepted
choice_kept c mode accepted kept lines h = choice_same kept (accepted_trees c mode lines) h.same accepted

pub all_written : (start a b new : List ℕ) (choice choice' : Choice) → a ≡ start ++ (codes "all" ++ 9 ∷ []) → b ≡ a ++ choice_text choice → new ≡ b ++ 10 ∷ [] → choice ≡ choice' → new ≡ start ++ all_text choice'
all_written start a b new choice choice' p q r k =
    r ∙ ap (λ xs. xs ++ 10 ∷ []) q ∙ ap (λ xs. (xs ++ choice_text choice) ++ 10 ∷ []) p ∙ regroup ∙ ap (λ x. start ++ all_text x) k
  where
    regroup : ((start ++ (codes "all" ++ 9 ∷ [])) ++ choice_text choice) ++ 10 ∷ [] ≡ start ++ all_text choice
    regroup = simp append_assoc

-- ---- lines with the same members

no_member : {A : Type 0} (x : A) → Contains [] x → ⊥
no_member x (k, lt, is) = omega (arith, lt)

-- the only element of a list of one
only_member : {A : Type 0} (y x : A) → Contains (y ∷ []) x → y ≡ x
only_member y x h = elim (Contains-push_cases [] y x h) [ inl none ↦ absurd (no_member x none) | inr is ↦ is ]

module _ {A B : Type 0} (f : A → List B) where
  -- an element of what a member gives
  given : (xs : List A) (x : A) (y : B) → Contains xs x → Contains (f x) y → Contains (flat_map f xs) y
  given [] x y among h = absurd (no_member x among)
  given (z ∷ xs) x y among h = elim (Contains-append_cases (z ∷ []) xs x among) [
    | inl first ↦ Contains-append_left (f z) (flat_map f xs) y (subst (λ v. Contains (f v) y) (sym (only_member z x first)) h)
    | inr rest ↦ Contains-append_right (f z) (flat_map f xs) y (given xs x y rest h)
  ]

  -- what gives an element
  giver : (xs : List A) (y : B) → Contains (flat_map f xs) y → (x : A) × Contains xs x × Contains (f x) y
  giver [] y h = absurd (no_member y h)
  giver (z ∷ xs) y h = elim (Contains-append_cases (f z) (flat_map f xs) y h) [
    | inl first ↦ (z, Contains-append_left (z ∷ []) xs z (Contains-push [] z), first)
    | inr rest ↦ let (x, among, k) = giver xs y rest in (x, Contains-append_right (z ∷ []) xs x among, k)
  ]

  gives_more : (xs ys : List A) → ((x : A) → Contains xs x → Contains ys x) → (y : B) → Contains (flat_map f xs) y → Contains (flat_map f ys) y
  gives_more xs ys within y h = let (x, among, k) = giver xs y h in given ys x y (within x among) k

  gives_same : (xs ys : List A) → SameMembers xs ys → SameMembers (flat_map f xs) (flat_map f ys)
  gives_same xs ys same y = (gives_more xs ys (λ x. (same x).0) y, gives_more ys xs (λ x. (same x).1) y)

pub closes_alike : (c : Rows) (mode : LineMode) (accepted : List Requirement) → ClosesAlike (rule_of_all c mode accepted)
closes_alike c mode accepted lines others same =
    ap all_text (choice_same (accepted_trees c mode lines) (accepted_trees c mode others) (gives_same (λ line. tree_in (verdict c mode line)) lines others same) accepted)
