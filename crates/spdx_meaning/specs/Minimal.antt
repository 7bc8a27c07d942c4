-- What the minimal sets of a tree are. A requirement is the place where it first stands among the
-- tree's requirements.
use Rattle.std.specs.Prelude.{◌≡◌, ℕ, Bool, true, not, List, All}
use Rattle.std.specs.List.{list_all, AllByRecursion}
use Rattle.std.specs.List.Sorted.{IsStrictlyIncreasing}
use Rattle.spdx_requirement.specs.Items.{Requirement}
use Rattle.spdx_parser.specs.Tree.{Tree, leaves}
use Rattle.spdx_evaluation.specs.Truth.{holds}
use Rattle.selections.specs.Sets.{is_in, met_by, AreApart}
use Rattle.selections.specs.Order.{AreInOrder}
use Rattle.spdx_meaning.specs.Places.{place_in, answer_at}
use Rattle.spdx_meaning.specs.Meaning.{IsAcceptance}

-- whether the tree holds where the requirements of some places are accepted
abbrev pub holds_at : (ℕ → Bool) → Tree → Bool
holds_at p t = holds (λ r. p (place_in (leaves t) r)) t

-- whether another tree doesn't hold where just the requirements of these places are accepted
abbrev pub is_unmet : Tree → Tree → List ℕ → Bool
is_unmet t u s = not (holds (λ r. is_in s (place_in (leaves t) r)) u)

-- where no other places are accepted, the tree holds only if all of the set are
abbrev pub NeedsAll : Tree → List ℕ → Type 0
NeedsAll t s =
    (p : ℕ → Bool) → ((k : ℕ) → p k ≡ true → is_in s k ≡ true) → holds_at p t ≡ true →
    list_all p s ≡ true

-- The tree holds exactly if all of one of the sets is accepted, whatever is accepted; none of them
-- includes another, and each needs all of its requirements; of each the places ascend, and the sets
-- by size and then in order.
pub record AreMinimalSets (t : Tree) (sets : List (List ℕ)) : Type 0 where
  pub means : (h : Requirement → Bool) → IsAcceptance h →
      holds h t ≡ met_by (answer_at (leaves t) h) sets
  pub at_places : (p : ℕ → Bool) → holds_at p t ≡ met_by p sets
  pub apart : AreApart sets
  pub needed : AllByRecursion (NeedsAll t) sets
  pub rise : All IsStrictlyIncreasing sets
  pub ordered : AreInOrder sets
