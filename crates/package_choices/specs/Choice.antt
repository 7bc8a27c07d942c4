-- One choice for all of some packages, each of which is allowed requirements of its own.
use Rattle.std.specs.Prelude.{◌≡◌, ℕ, ◌+◌, Bool, false, ◌&&◌, cond, List, [], ◌∷◌, ◌++◌, Option, Some, None, length, map, replicate, nat_lt}
use Rattle.std.specs.List.{list_all}
use Rattle.spdx_requirement.specs.Items.{Requirement}
use Rattle.spdx_requirement.specs.Equality.{same_requirement}
use Rattle.spdx_parser.specs.Tree.{Tree, leaves}
use Rattle.selections.specs.Selection.{IsLeast, NeedsEach, NoneSuffices}
use Rattle.spdx_evaluation.specs.Postfix.{tree_in}
use Rattle.spdx_evaluation.specs.Truth.{truth_of}
use Rattle.spdx_minimize.specs.Choice.{first_ones, chosen_of, least_of}
use Rattle.spdx_why.specs.Missing.{answer_in}
use Rattle.spdx_why.specs.Least.{Choice, choice_of, advised}
use Rattle.package_choices.specs.declared.allowed.joint.Joint.{Joint}
use Rattle.package_choices.specs.declared.allowed.joint.Joint.TheVariants as joint
use Rattle.package_choices.specs.declared.allowed.offer.Offer as declared

-- an expression, and of each of its requirements whether it is allowed
pub record Offered : Type 0 where
  pub tree : Tree
  pub allowed : List Bool

abbrev pub offer_of : declared.Offer → Offered
offer_of o = record { tree = tree_in o.nodes.now; allowed = o.allowed.items }

-- its allowed requirements, from left to right
abbrev pub allowed_of : Offered → List Requirement
allowed_of o = chosen_of (leaves o.tree) o.allowed

-- the same of some, in their order
abbrev pub all_allowed : List Offered → List Requirement
all_allowed [] = []
all_allowed (o ∷ os) = allowed_of o ++ all_allowed os

-- the distinct ones of them, at first occurrence
abbrev pub members_of : List Offered → List Requirement
members_of offers = first_ones [] (all_allowed offers)

-- the number of the first member that is the same requirement; how many there are, where none is
abbrev pub number_of : List Requirement → Requirement → ℕ
number_of [] r = 0
number_of (m ∷ ms) r = cond (same_requirement m r) 0 (number_of ms r + 1)

-- an expression with what is allowed, and of each of its requirements the number of the member that
-- is the same
pub record Asked : Type 0 where
  pub tree : Tree
  pub allowed : List Bool
  pub numbers : List ℕ

abbrev pub asked : List Requirement → Offered → Asked
asked members o =
    record { tree = o.tree; allowed = o.allowed; numbers = map (number_of members) (leaves o.tree) }

-- which requirements are allowed and have their member chosen
abbrev pub met : List Bool → List ℕ → List Bool → List Bool
met [] numbers selection = []
met (b ∷ bs) [] selection = []
met (b ∷ bs) (n ∷ ns) selection = (b && answer_in selection n) ∷ met bs ns selection

abbrev pub met_in : Asked → List Bool → List Bool
met_in q selection = met q.allowed q.numbers selection

-- whether the expression is true over them
abbrev pub is_true_in : List Bool → Asked → Bool
is_true_in selection q = truth_of q.tree (met_in q selection)

-- whether each of the expressions is
abbrev pub suffices_for : List Asked → List Bool → Bool
suffices_for qs selection = list_all (is_true_in selection) qs

-- the least choice of one expression alone among them
abbrev pub own_in : List Bool → Asked → Choice
own_in selection q = choice_of q.tree (replicate (length q.allowed) false) (met_in q selection)

-- and among all that is allowed
abbrev pub own_choice : Offered → Choice
own_choice o = choice_of o.tree (replicate (length o.allowed) false) o.allowed

-- what each expression is used under; or not even all that is allowed suffices; or so many members,
-- more than the limit, are there
pub data Told : Type 0 where
  together : List Choice → Told
  unmet : Told
  too_many : ℕ → Told

abbrev pub choices_by : List Asked → Option (List Bool) → Told
choices_by qs None = unmet
choices_by qs (Some selection) = together (map (own_in selection) qs)

-- the first sufficient selection: of two the one that leaves out the last member on which they
-- differ comes first
abbrev pub joint_among : List Requirement → List Asked → Told
joint_among members qs =
    cond (nat_lt 1024 (length members)) (too_many (length members))
    (choices_by qs (least_of (suffices_for qs) (length members)))

abbrev pub asked_all : List Offered → List Asked
asked_all offers = map (asked (members_of offers)) offers

abbrev pub joint_of : List Offered → Told
joint_of offers = joint_among (members_of offers) (asked_all offers)

abbrev pub told : Joint → Told
told (joint.Together v) = together (map advised v.items)
told joint.Unmet = unmet
told (joint.TooMany n) = too_many n

-- the sufficient selection that, against each other one, leaves out the last member on which they
-- differ; none of its members can be left out with the rest sufficient
pub record IsLeastTogether (offers : List Offered) (choices : List Choice) : Type 0 where
  pub selection : List Bool
  pub least : IsLeast (suffices_for (asked_all offers)) (length (members_of offers)) selection
  pub needed : NeedsEach (suffices_for (asked_all offers)) selection
  pub own : choices ≡ map (own_in selection) (asked_all offers)

-- what it is among other choices
abbrev pub IsLeastJoint : List Offered → Joint → Type 0
IsLeastJoint offers (joint.Together v) = IsLeastTogether offers (map advised v.items)
IsLeastJoint offers joint.Unmet =
    NoneSuffices (suffices_for (asked_all offers)) (length (members_of offers))
IsLeastJoint offers (joint.TooMany n) = n ≡ length (members_of offers)
