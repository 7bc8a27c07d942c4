-- The fewest requirements that make an expression pass.
use Rattle.std.specs.Prelude.{◌≡◌, ℕ, ◌+◌, Bool, true, ◌&&◌, ◌||◌, cond, List, [], ◌∷◌, Option, Some, None, length, map, nat_lt}
use Rattle.std.specs.List.{list_all}
use Rattle.spdx_requirement.specs.Items.{Requirement}
use Rattle.spdx_requirement.specs.Equality.{same_requirement}
use Rattle.spdx_parser.specs.Tree.{Tree, leaves}
use Rattle.selections.specs.Selection.{IsLeast, NeedsEach, NoneSuffices}
use Rattle.spdx_evaluation.specs.Truth.{truth_of}
use Rattle.spdx_minimize.specs.Choice.{least_of}
use Rattle.spdx_minimize.specs.Places.{places_from}
use Rattle.spdx_why.specs.declared.choice.Remedy.{Remedy}
use Rattle.spdx_why.specs.declared.choice.Remedy.TheVariants.{Accept, Unmet, TooMany}
use Rattle.spdx_why.specs.Missing.{answer_in}

-- the number of the first candidate that is the same requirement; how many there are, where none is
abbrev pub first_candidate : List Requirement → List Bool → Requirement → ℕ
first_candidate [] candidates r = 0
first_candidate (q ∷ qs) [] r = first_candidate qs [] r + 1
first_candidate (q ∷ qs) (c ∷ cs) r =
    cond (c && same_requirement q r) 0 (first_candidate qs cs r + 1)

-- the same of each requirement of a tree
abbrev pub firsts_of : Tree → List Bool → List ℕ
firsts_of t candidates = map (first_candidate (leaves t) candidates) (leaves t)

-- the answers where a requirement is accepted if it was before, or if its first candidate is chosen
abbrev pub with_chosen : List Bool → List ℕ → List Bool → List Bool
with_chosen [] firsts selection = []
with_chosen (a ∷ rest) [] selection = []
with_chosen (a ∷ rest) (f ∷ fs) selection =
    (a || answer_in selection f) ∷ with_chosen rest fs selection

-- whether the tree is true over them
abbrev pub suffices_in : Tree → List Bool → List Bool → List Bool → Bool
suffices_in t accepted candidates selection =
    truth_of t (with_chosen accepted (firsts_of t candidates) selection)

-- the numbers of the chosen, ascending
abbrev pub numbers_of : List Bool → List ℕ
numbers_of selection = places_from (λ b. b) 0 selection

-- these are chosen; or no choice suffices; or so many requirements, more than the limit, are there
pub data Choice : Type 0 where
  chosen : List ℕ → Choice
  unmet : Choice
  too_many : ℕ → Choice

abbrev pub choice_by : Option (List Bool) → Choice
choice_by None = unmet
choice_by (Some selection) = chosen (numbers_of selection)

-- the first sufficient selection: of two the one that leaves out the last requirement on which they
-- differ comes first
abbrev pub choice_of : Tree → List Bool → List Bool → Choice
choice_of t accepted candidates =
    cond (nat_lt 1024 (length accepted)) (too_many (length accepted))
    (choice_by (least_of (suffices_in t accepted candidates) (length accepted)))

-- what an advice says
abbrev pub advised : Remedy → Choice
advised (Accept v) = chosen v.items
advised Unmet = unmet
advised (TooMany n) = too_many n

-- the sufficient selection that, against each other one, leaves out the last requirement on which
-- they differ; none of its members can be left out with the rest sufficient
pub record IsLeastChoice (suffices : List Bool → Bool) (n : ℕ) (numbers : List ℕ) : Type 0 where
  pub selection : List Bool
  pub least : IsLeast suffices n selection
  pub needed : NeedsEach suffices selection
  pub numbers_are : numbers ≡ numbers_of selection

-- what an advice is among other choices of n requirements
abbrev pub IsLeastRemedy : (List Bool → Bool) → ℕ → Remedy → Type 0
IsLeastRemedy suffices n (Accept v) = IsLeastChoice suffices n v.items
IsLeastRemedy suffices n Unmet = NoneSuffices suffices n
IsLeastRemedy suffices n (TooMany k) = k ≡ n

-- only candidates are advised
abbrev pub AdvisesOnly : List Bool → Remedy → Type 0
AdvisesOnly candidates (Accept v) = list_all (answer_in candidates) v.items ≡ true
AdvisesOnly candidates Unmet = Unit {0}
AdvisesOnly candidates (TooMany k) = Unit {0}
