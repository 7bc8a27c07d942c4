-- The text of sets of requirements.
use Rattle.std.specs.Prelude.{ℕ, List, [], ◌∷◌, ◌++◌, codes}
use Rattle.spdx_requirement.specs.Items.{Requirement}
use Rattle.spdx_requirement.specs.Texts.{requirement_text}

-- texts with another one before each
abbrev pub more_joined : {X : Type 0} → List ℕ → (X → List ℕ) → List X → List ℕ
more_joined between f [] = []
more_joined between f (x ∷ xs) = between ++ (f x ++ more_joined between f xs)

-- texts with another one between them
abbrev pub joined : {X : Type 0} → List ℕ → (X → List ℕ) → List X → List ℕ
joined between f [] = []
joined between f (x ∷ xs) = f x ++ more_joined between f xs

-- the requirements of each set, and the sets
abbrev pub sets_text : List (List Requirement) → List ℕ
sets_text sets = joined (codes " OR ") (joined (codes " AND ") requirement_text) sets
