-- Each least set needs all of its requirements.
use Rattle.std.proofs.Common.{◌≡◌, Bool, true, false, List, [], ◌∷◌, sym, ◌∙◌, inl, inr}
use Rattle.std.specs.Prelude.{not}
use Rattle.std.specs.List.{list_any, list_all, AllByRecursion}
use Rattle.spdx_requirement.specs.Items.{Requirement}
use Rattle.spdx_requirement.specs.Equality.{same_requirement}
use Rattle.spdx_parser.specs.Tree.{Tree}
use Rattle.selections.proofs.Means.{either_way, some_passes, all_weaker, and_first, and_second, turned_back}
use Rattle.spdx_meaning.specs.Sets.{AllLater, includes, differ}
use Rattle.spdx_meaning.specs.LeastSets.{AreLeastSets, NeedsAll}

module _ {X : Type 0} (same : X → X → Bool) where
  abbrev among : List X → X → Bool
  among s x = list_any (λ y. same y x) s

  -- a set that another one includes, which it differs from
  excluded : (s m : List X) (h : X → Bool) → ((x : X) → h x ≡ true → among s x ≡ true) → list_all h m ≡ true → includes same s m ≡ false → ⊥
  excluded s m h only all none =
      let bad : true ≡ false = sym (all_weaker h (among s) m only all) ∙ none in
      cc

  -- the set is the one that passes, where others would be included in it
  abbrev pub Passes : List (List X) → List X → Type 0
  Passes sets s = (h : X → Bool) → ((x : X) → h x ≡ true → among s x ≡ true) → list_any (list_all h) sets ≡ true → list_all h s ≡ true

  more : (x : List X) (sets ss : List (List X)) → list_all (differ same x) ss ≡ true → AllByRecursion (Passes sets) ss → AllByRecursion (Passes (x ∷ sets)) ss
  more x sets [] apart k = tt
  more x sets (s ∷ ss) apart k = (
    (λ h only e. elim (either_way (list_all h x) (list_any (list_all h) sets) e) [
      | inl all ↦ absurd (excluded s x h only all (turned_back (includes same s x) (and_second (not (includes same x s)) (not (includes same s x)) (and_first (differ same x s) (list_all (differ same x) ss) apart))))
      | inr there ↦ k.0 h only there
    ]),
    more x sets ss (and_second (differ same x s) (list_all (differ same x) ss) apart) k.1,
  )

  pub each_passes : (sets : List (List X)) → AllLater (differ same) sets → AllByRecursion (Passes sets) sets
  each_passes [] apart = tt
  each_passes (x ∷ xs) apart = (
    (λ h only e. elim (either_way (list_all h x) (list_any (list_all h) xs) e) [
      | inl all ↦ all
      | inr there ↦
          let one = some_passes (list_all h) xs there in
          absurd (excluded x one.0 h only one.1 (turned_back (includes same x one.0) (and_first (not (includes same x one.0)) (not (includes same one.0 x)) (one.3 (differ same x) apart.0))))
    ]),
    more x xs xs apart.0 (each_passes xs apart.1),
  )

module _ (t : Tree) (sets : List (List Requirement)) (least : AreLeastSets t sets) where
  needs : (ss : List (List Requirement)) → AllByRecursion (Passes same_requirement sets) ss → AllByRecursion (NeedsAll t) ss
  needs [] k = tt
  needs (s ∷ ss) k = ((λ h ok only e. k.0 h only (sym (least.means h ok) ∙ e)), needs ss k.1)

  pub all_needed : AllByRecursion (NeedsAll t) sets
  all_needed = needs sets (each_passes same_requirement sets least.apart)
