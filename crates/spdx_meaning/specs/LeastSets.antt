-- The least sets of requirements that make a tree hold, in the order of requirements, and their
-- tree.
use Rattle.std.specs.Prelude.{◌≡◌, Bool, true, List, [], ◌∷◌}
use Rattle.std.specs.List.{list_any, list_all, AllByRecursion}
use Rattle.spdx_requirement.specs.Items.{Requirement}
use Rattle.spdx_requirement.specs.Equality.{same_requirement}
use Rattle.spdx_requirement.specs.Orders.{requirement_cmp}
use Rattle.spdx_parser.specs.declared.node.Operator.TheVariants.{And, Or}
use Rattle.spdx_parser.specs.Tree.{Tree, Leaf, Join, leaves}
use Rattle.spdx_evaluation.specs.Postfix.{newest}
use Rattle.spdx_evaluation.specs.Truth.{holds}
use Rattle.spdx_meaning.specs.Meaning.{IsAcceptance}
use Rattle.spdx_meaning.specs.Sets.{In, AllLater, is_before, differ, sets_cmp}

-- whether all of one of the sets is accepted
abbrev pub accepts_one : (Requirement → Bool) → List (List Requirement) → Bool
accepts_one h sets = list_any (list_all h) sets

-- The tree holds exactly if all of one of the sets is accepted, whatever is accepted; none of them
-- includes another; of each the requirements ascend, and the sets by size and then in order; and
-- each requirement is one of the tree's.
pub record AreLeastSets (t : Tree) (sets : List (List Requirement)) : Type 0 where
  pub means : (h : Requirement → Bool) → IsAcceptance h → holds h t ≡ accepts_one h sets
  pub apart : AllLater (differ same_requirement) sets
  pub rise : AllByRecursion (AllLater (is_before requirement_cmp)) sets
  pub ordered : AllLater (is_before (sets_cmp requirement_cmp)) sets
  pub of_tree : AllByRecursion (AllByRecursion (In (leaves t))) sets

-- no others than those of the set are accepted
abbrev pub AcceptsOnly : (Requirement → Bool) → List Requirement → Type 0
AcceptsOnly h s = (r : Requirement) → h r ≡ true → list_any (λ q. same_requirement q r) s ≡ true

-- there the tree holds only if all of the set are
abbrev pub NeedsAll : Tree → List Requirement → Type 0
NeedsAll t s =
    (h : Requirement → Bool) → IsAcceptance h → AcceptsOnly h s → holds h t ≡ true →
    list_all h s ≡ true

-- requirements joined by AND; chains lean right, as the grammar has them
abbrev pub all_from : Requirement → List Requirement → Tree
all_from r [] = Leaf r
all_from r (q ∷ qs) = Join And (Leaf r) (all_from q qs)

abbrev pub all_of : List Requirement → Tree
all_of [] = newest []
all_of (r ∷ rs) = all_from r rs

-- such trees joined by OR
abbrev pub any_from : List Requirement → List (List Requirement) → Tree
any_from s [] = all_of s
any_from s (m ∷ ms) = Join Or (all_of s) (any_from m ms)

abbrev pub any_of : List (List Requirement) → Tree
any_of [] = newest []
any_of (s ∷ ss) = any_from s ss
