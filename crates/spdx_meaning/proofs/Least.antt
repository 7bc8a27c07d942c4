-- The least sets of a tree, in order, are its minimal sets.
use Rattle.std.proofs.Common.{◌≡◌, ℕ, Bool, true, false, List, [], ◌∷◌, Ok, sym, ◌∙◌, inl, inr, All}
use Rattle.std.specs.Prelude.{not}
use Rattle.std.specs.List.{list_all, AllByRecursion}
use Rattle.std.specs.List.Sorted.{IsStrictlyIncreasing}
use Rattle.spdx_parser.specs.Tree.{Tree, leaves}
use Rattle.selections.specs.Sets.{is_in, includes, differ, met_by, AreApart}
use Rattle.selections.specs.Order.{AreInOrder}
use Rattle.selections.proofs.Means.{either_way, some_passes, all_weaker, and_first, and_second, turned_back}
use Rattle.spdx_meaning.specs.Places.{place_in, answer_at}
use Rattle.spdx_meaning.specs.Made.{made_in}
use Rattle.spdx_meaning.specs.Minimal.{holds_at, NeedsAll, AreMinimalSets}
use Rattle.spdx_meaning.proofs.Meaning.{made_means, in_means}

-- a set that another one includes, which it differs from
excluded : (s m : List ℕ) (p : ℕ → Bool) → ((k : ℕ) → p k ≡ true → is_in s k ≡ true) → list_all p m ≡ true → includes s m ≡ false → ⊥
excluded s m p only all none =
    let bad : true ≡ false = sym (all_weaker p (is_in s) m only all) ∙ none in
    cc

-- the set is the one that passes, where others would be included in it
abbrev pub Passes : List (List ℕ) → List ℕ → Type 0
Passes sets s = (p : ℕ → Bool) → ((k : ℕ) → p k ≡ true → is_in s k ≡ true) → met_by p sets ≡ true → list_all p s ≡ true

more : (x : List ℕ) (sets ss : List (List ℕ)) → list_all (differ x) ss ≡ true → AllByRecursion (Passes sets) ss → AllByRecursion (Passes (x ∷ sets)) ss
more x sets [] apart h = tt
more x sets (s ∷ ss) apart h = (
  (λ p only e. elim (either_way (list_all p x) (met_by p sets) e) [
    | inl all ↦ absurd (excluded s x p only all (turned_back (includes s x) (and_second (not (includes x s)) (not (includes s x)) (and_first (differ x s) (list_all (differ x) ss) apart))))
    | inr there ↦ h.0 p only there
  ]),
  more x sets ss (and_second (differ x s) (list_all (differ x) ss) apart) h.1,
)

pub each_passes : (sets : List (List ℕ)) → AreApart sets → AllByRecursion (Passes sets) sets
each_passes [] apart = tt
each_passes (x ∷ xs) apart = (
  (λ p only e. elim (either_way (list_all p x) (met_by p xs) e) [
    | inl all ↦ all
    | inr there ↦
        let one = some_passes (list_all p) xs there in
        absurd (excluded x one.0 p only one.1 (turned_back (includes x one.0) (and_first (not (includes x one.0)) (not (includes one.0 x)) (one.3 (differ x) apart.0))))
  ]),
  more x xs xs apart.0 (each_passes xs apart.1),
)

needed : (t : Tree) (sets ss : List (List ℕ)) → ((p : ℕ → Bool) → holds_at p t ≡ met_by p sets) → AllByRecursion (Passes sets) ss → AllByRecursion (NeedsAll t) ss
needed t sets [] e h = tt
needed t sets (s ∷ ss) e h = ((λ p only there. h.0 p only (sym (e p) ∙ there)), needed t sets ss e h.1)

pub are_minimal : (t : Tree) (sets ordered : List (List ℕ)) → made_in t ≡ Ok sets → ((p : ℕ → Bool) → met_by p ordered ≡ met_by p sets) → AreApart ordered → All IsStrictlyIncreasing ordered → AreInOrder ordered → AreMinimalSets t ordered
are_minimal t sets ordered made same apart rise up =
    let places : (p : ℕ → Bool) → holds_at p t ≡ met_by p ordered = λ p. made_means (place_in (leaves t)) p t sets made ∙ sym (same p) in
    record {
      means = λ h ok. in_means t sets made h ok ∙ sym (same (answer_at (leaves t) h));
      at_places = places;
      apart = apart;
      needed = needed t ordered ordered places (each_passes ordered apart);
      rise = rise;
      ordered = up;
    }
