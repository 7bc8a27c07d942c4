-- The least sets of requirements that make a tree hold, as they are made of its parts.
use Rattle.std.specs.Prelude.{ℕ, ◌+◌, ◌*◌, cond, nat_lt, List, [], ◌∷◌, length, Result, Ok, Err}
use Rattle.spdx_requirement.specs.Items.{Requirement}
use Rattle.spdx_parser.specs.declared.node.Operator.{Operator}
use Rattle.spdx_parser.specs.declared.node.Operator.TheVariants.{And, Or}
use Rattle.spdx_parser.specs.Tree.{Tree, Leaf, Join, leaves}
use Rattle.selections.specs.Sets.{either, both}
use Rattle.spdx_meaning.specs.Places.{place_in}

-- the sets of both sides, or a set of each side with one of the other
abbrev pub count_made : Operator → ℕ → ℕ → ℕ
count_made And m n = m * n
count_made Or m n = m + n

-- the least of them
abbrev pub join_sets : Operator → List (List ℕ) → List (List ℕ) → List (List ℕ)
join_sets And ls rs = both ls rs
join_sets Or ls rs = either ls rs

-- the same, or how many are made, where they are more than the limit
abbrev pub made_of : Operator → List (List ℕ) → List (List ℕ) → Result (List (List ℕ)) ℕ
made_of o ls rs =
    cond (nat_lt 4096 (count_made o (length ls) (length rs)))
    (Err (count_made o (length ls) (length rs))) (Ok (join_sets o ls rs))

abbrev pub made_beside : Operator → List (List ℕ) → Result (List (List ℕ)) ℕ →
    Result (List (List ℕ)) ℕ
made_beside o ls (Ok rs) = made_of o ls rs
made_beside o ls (Err n) = Err n

abbrev pub made_from : Operator → Result (List (List ℕ)) ℕ → Result (List (List ℕ)) ℕ →
    Result (List (List ℕ)) ℕ
made_from o (Ok ls) rs = made_beside o ls rs
made_from o (Err n) rs = Err n

-- The least sets of a tree whose requirements are numbers; of a tree that makes too many, how many
-- its first part makes that does, an operator's left side before its right side, and both before
-- itself.
abbrev pub made_by : (Requirement → ℕ) → Tree → Result (List (List ℕ)) ℕ
made_by f (Leaf r) = Ok ((f r ∷ []) ∷ [])
made_by f (Join o l r) = made_from o (made_by f l) (made_by f r)

-- the same where each requirement is the place where it first stands
abbrev pub made_in : Tree → Result (List (List ℕ)) ℕ
made_in t = made_by (place_in (leaves t)) t
