-- The lists of sets that nodes leave, the newest first.
use Rattle.std.specs.Prelude.{ℕ, ◌≤◌, List, [], ◌∷◌, map, reverse, length, Result, Ok, Err}
use Rattle.std.specs.Global.{Vec}
use Rattle.spdx_parser.specs.declared.node.Operator.{Operator}
use Rattle.selections.specs.Sets.{sets_in}
use Rattle.spdx_meaning.specs.Made.{made_of}

abbrev pub sets_at : Vec (Vec ℕ) → List (List ℕ)
sets_at v = sets_in v.items

abbrev pub stack_in : List (Vec (Vec ℕ)) → List (List (List ℕ))
stack_in vs = reverse (map sets_at vs)

-- none has more than the limit
abbrev pub AreFew : List (List (List ℕ)) → Type 0
AreFew [] = Unit {0}
AreFew (s ∷ ss) = (length s ≤ 4096) × AreFew ss

abbrev pub pushed : Result (List (List ℕ)) ℕ → List (List (List ℕ)) →
    Result (List (List (List ℕ))) ℕ
pushed (Ok s) stack = Ok (s ∷ stack)
pushed (Err n) stack = Err n

-- the two newest become one
abbrev pub join_top : Operator → List (List (List ℕ)) → Result (List (List (List ℕ))) ℕ
join_top o (right ∷ left ∷ stack) = pushed (made_of o left right) stack
join_top o (s ∷ []) = Ok (s ∷ [])
join_top o [] = Ok []
