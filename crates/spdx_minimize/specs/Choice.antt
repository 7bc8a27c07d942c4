-- The least choice of licensees that makes expressions true.
use Rattle.std.specs.Prelude.{◌≡◌, ℕ, zero, suc, Bool, true, false, ◌&&◌, ◌||◌, cond, List, [], ◌∷◌, ◌++◌, Option, length, nat_lt}
use Rattle.std.specs.Option.{option_map_or}
use Rattle.std.specs.List.{filter, find, list_all, list_any}
use Rattle.spdx_requirement.specs.Items.{Requirement}
use Rattle.spdx_parser.specs.Tree.{Tree, leaves}
use Rattle.spdx_licensee.specs.Satisfies.{satisfies}
use Rattle.selections.specs.Selection.{IsLeast, NeedsEach}
use Rattle.spdx_requirement.specs.Equality.{same_requirement}
pub use Rattle.spdx_evaluation.specs.Truth.{holds}

-- those that are the same as none before them
abbrev pub first_ones : List Requirement → List Requirement → List Requirement
first_ones before [] = []
first_ones before (r ∷ rs) =
    cond (list_any (λ b. same_requirement b r) before) [] (r ∷ []) ++
    first_ones (before ++ r ∷ []) rs

-- whether the licensee satisfies a requirement of some tree
abbrev pub satisfies_some : List Tree → Requirement → Bool
satisfies_some trees licensee = list_any (λ t. list_any (satisfies licensee) (leaves t)) trees

-- the distinct licensees, at first occurrence, that satisfy a requirement of some tree
abbrev pub useful : List Tree → List Requirement → List Requirement
useful trees licensees = filter (satisfies_some trees) (first_ones [] licensees)

-- whether some chosen member satisfies the requirement
abbrev pub any_chosen : List Requirement → List Bool → Requirement → Bool
any_chosen [] selection r = false
any_chosen (m ∷ ms) [] r = false
any_chosen (m ∷ ms) (b ∷ bs) r = (b && satisfies m r) || any_chosen ms bs r

-- every tree is true, where the answer to a requirement is that some chosen member satisfies it
abbrev pub suffices_for : List Tree → List Requirement → List Bool → Bool
suffices_for trees members selection = list_all (holds (any_chosen members selection)) trees

-- each selection of some members twice, without and with one more member before them
abbrev pub without_and_with : List (List Bool) → List (List Bool)
without_and_with [] = []
without_and_with (s ∷ ss) = (false ∷ s) ∷ (true ∷ s) ∷ without_and_with ss

-- every selection of n members; of two the one that leaves out the last member on which they differ
-- comes first
abbrev pub selections : ℕ → List (List Bool)
selections zero = [] ∷ []
selections (suc n) = without_and_with (selections n)

-- the first selection that suffices
abbrev pub least_of : (List Bool → Bool) → ℕ → Option (List Bool)
least_of suffices n = find suffices (selections n)

-- the chosen members, in their order
abbrev pub chosen_of : List Requirement → List Bool → List Requirement
chosen_of [] selection = []
chosen_of (m ∷ ms) [] = []
chosen_of (m ∷ ms) (b ∷ bs) = cond b (m ∷ []) [] ++ chosen_of ms bs

-- the requirements that are chosen; or so many licensees are useful, more than the limit; or not
-- even all of them suffice
pub data Choice : Type 0 where
  chosen : List Requirement → Choice
  too_many : ℕ → Choice
  unmet : Choice

-- the choice among the useful licensees: that of the first selection that suffices
abbrev pub choice_among : List Tree → List Requirement → Choice
choice_among trees members =
    cond (nat_lt 1024 (length members)) (too_many (length members))
    (option_map_or (λ selection. chosen (chosen_of members selection))
    (find (suffices_for trees members) (selections (length members))) unmet)

abbrev pub choice_of : List Tree → List Requirement → Choice
choice_of trees licensees = choice_among trees (useful trees licensees)

-- what the least choice is among other choices: the useful licensees of the sufficient selection
-- that, against each other one, leaves out the last member on which they differ; and none of its
-- members can be left out with the rest sufficient
pub record IsLeastChoice (trees : List Tree) (members : List Requirement)
    (chosen : List Requirement) : Type 0 where
  pub selection : List Bool
  pub least : IsLeast (suffices_for trees members) (length members) selection
  pub needed : NeedsEach (suffices_for trees members) selection
  pub requirements : chosen ≡ chosen_of members selection
