-- The two endings of GNU names.
use Rattle.std.specs.Prelude.{ℕ, ◌-◌, Bool, ◌||◌, List, length, take, Option, Some, None, if◌then◌else◌, nat_eq, codes, unwrap_or}
use Rattle.std.specs.List.{ends_with}

-- the ending of a GNU licence of one version
abbrev pub only : List ℕ
only = codes "-only"

-- the ending of a GNU licence of that version and those after it
abbrev pub or_later : List ℕ
or_later = codes "-or-later"

-- the ending that says which versions are meant
abbrev pub ending : Bool → List ℕ
ending later = if later then or_later else only

-- the name ends in `-or-later`
abbrev pub ends_or_later : List ℕ → Bool
ends_or_later name = ends_with nat_eq name or_later

-- the name has one of the two endings
abbrev pub has_suffix : List ℕ → Bool
has_suffix name = ends_with nat_eq name only || ends_or_later name

-- what stands before an ending
abbrev pub without : List ℕ → List ℕ → Option (List ℕ)
without ending name =
    if ends_with nat_eq name ending then Some (take (length name - length ending) name) else None

-- the name, a final `-only` taken off
abbrev pub without_only : List ℕ → List ℕ
without_only name = unwrap_or (without only name) name
