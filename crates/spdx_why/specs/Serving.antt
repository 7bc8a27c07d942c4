-- The fewest candidates that make an expression pass, where each candidate serves some of the
-- requirements.
use Rattle.std.specs.Prelude.{◌≡◌, ℕ, ◌<◌, ◌==◌, Bool, true, false, ◌||◌, cond, List, [], ◌∷◌, All, Vec, map, nat_lt}
use Rattle.std.specs.List.{list_any}
use Rattle.std.specs.declared.alloc.Global.{Global}
use Rattle.spdx_parser.specs.Tree.{Tree}
use Rattle.spdx_evaluation.specs.Truth.{truth_of}
use Rattle.spdx_minimize.specs.Choice.{least_of}
use Rattle.spdx_why.specs.declared.choice.Remedy.{Remedy}
use Rattle.spdx_why.specs.declared.choice.Remedy.TheVariants.{Accept, Unmet, TooMany}
use Rattle.spdx_why.specs.Missing.{answer_in}
use Rattle.spdx_why.specs.Least.{Choice, too_many, choice_by}

-- for each requirement the numbers of the candidates that serve it
abbrev pub lists_in : List (Vec ℕ Global) → List (List ℕ)
lists_in serving = map (λ v. v.items) serving

-- one candidate alone
abbrev pub alone : ℕ → List ℕ
alone k = k ∷ []

-- the answers where a requirement is accepted if it was before, or if a candidate that is taken
-- serves it
abbrev pub served_by : (ℕ → Bool) → List Bool → List (List ℕ) → List Bool
served_by taken [] serving = []
served_by taken (a ∷ rest) [] = []
served_by taken (a ∷ rest) (s ∷ ss) = (a || list_any taken s) ∷ served_by taken rest ss

-- the same of the candidates that a selection chooses
abbrev pub with_served : List Bool → List (List ℕ) → List Bool → List Bool
with_served accepted serving selection = served_by (answer_in selection) accepted serving

-- the same of the candidates of these numbers
abbrev pub with_numbers : List Bool → List (List ℕ) → List ℕ → List Bool
with_numbers accepted serving numbers =
    served_by (λ k. list_any (λ n. n == k) numbers) accepted serving

-- whether the tree is true where a selection of candidates is chosen
abbrev pub serves_in : Tree → List Bool → List (List ℕ) → List Bool → Bool
serves_in t accepted serving selection = truth_of t (with_served accepted serving selection)

-- the first sufficient selection: of two the one that leaves out the last candidate on which they
-- differ comes first
abbrev pub choice_among : Tree → List Bool → List (List ℕ) → ℕ → Choice
choice_among t accepted serving count =
    cond (nat_lt 1024 count) (too_many count)
    (choice_by (least_of (serves_in t accepted serving) count))

-- there are candidates of the chosen numbers
abbrev pub ChoosesBelow : ℕ → Remedy → Type 0
ChoosesBelow count (Accept v) = All (λ k. k < count) v.items
ChoosesBelow count Unmet = Unit {0}
ChoosesBelow count (TooMany n) = Unit {0}

-- with the candidates of the chosen numbers the expression is true
abbrev pub ChoiceCures : Tree → List Bool → List (List ℕ) → Remedy → Type 0
ChoiceCures t accepted serving (Accept v) =
    truth_of t (with_numbers accepted serving v.items) ≡ true
ChoiceCures t accepted serving Unmet = Unit {0}
ChoiceCures t accepted serving (TooMany n) = Unit {0}

-- where no choice was found, the expression is false whichever of the candidates are taken
abbrev pub NoChoiceCures : Tree → List Bool → List (List ℕ) → ℕ → Remedy → Type 0
NoChoiceCures t accepted serving count (Accept v) = Unit {0}
NoChoiceCures t accepted serving count Unmet =
    (numbers : List ℕ) → All (λ k. k < count) numbers →
    truth_of t (with_numbers accepted serving numbers) ≡ false
NoChoiceCures t accepted serving count (TooMany n) = Unit {0}
