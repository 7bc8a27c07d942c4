-- Where the distinct licensees stand that satisfy a requirement.
use Rattle.std.specs.Prelude.{◌≡◌, ℕ, ◌+◌, Bool, cond, List, [], ◌∷◌, ◌++◌, Option, All, take, drop}
use Rattle.std.specs.List.{list_any}
use Rattle.std.specs.Option.{ForSome}
use Rattle.spdx_requirement.specs.Items.{Requirement, requirement_of}
use Rattle.spdx_requirement.specs.Equality.{same_requirement}
use Rattle.spdx_licensee.specs.Satisfies.{satisfies}
use Rattle.spdx_minimize.specs.declared.accepted.found.Found.{Found}

-- the places, counted from k, of those that pass the test and are the same as none before them
abbrev pub first_places_from : (Requirement → Bool) → ℕ → List Requirement → List Requirement →
    List ℕ
first_places_from test k before [] = []
first_places_from test k before (r ∷ rs) =
    cond (list_any (λ b. same_requirement b r) before) [] (cond (test r) (k ∷ []) []) ++
    first_places_from test (k + 1) (before ++ r ∷ []) rs

-- the same of all licensees
abbrev pub first_places : List Requirement → (Requirement → Bool) → List ℕ
first_places licensees test = first_places_from test 0 [] licensees

-- the places of the distinct licensees that satisfy the requirement
abbrev pub places_for : List Requirement → Requirement → List ℕ
places_for licensees r = first_places licensees (λ l. satisfies l r)

-- those that stand at the places
abbrev pub at_places : List Requirement → List ℕ → List Requirement
at_places licensees [] = []
at_places licensees (k ∷ ks) = take 1 (drop k licensees) ++ at_places licensees ks

-- the places that are held for a requirement are those of the licensees
abbrev pub IsFound : List Requirement → Found → Type 0
IsFound licensees found =
    found.places.items ≡ places_for licensees (requirement_of found.requirement)

abbrev pub AreFound : List Requirement → List (Option Found) → Type 0
AreFound licensees slots = All (λ slot. ForSome slot (IsFound licensees)) slots
