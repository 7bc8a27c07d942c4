-- Rows in groups, from the last to the first. Only private clauses cite it.
use Rattle.std.specs.Prelude.{ℕ, List, [], ◌∷◌, if◌then◌else◌}
use Rattle.std.specs.Str.{bytes_eq}
use Rattle.license_notice.specs.Rows.{Row, Line, Band}

abbrev pub line_in : Row → Line
line_in r = record { name = r.name; version = r.version }

-- the requirement of the first row
abbrev pub first_name : List Row → List ℕ
first_name [] = []
first_name (r ∷ rows) = r.requirement

-- a row before bands: it joins the first where that has its requirement
abbrev pub onto : Row → List Band → List Band
onto r [] = record { requirement = r.requirement; lines = line_in r ∷ [] } ∷ []
onto r (b ∷ bands) =
    if bytes_eq r.requirement b.requirement
    then record { requirement = b.requirement; lines = line_in r ∷ b.lines } ∷ bands
    else record { requirement = r.requirement; lines = line_in r ∷ [] } ∷ b ∷ bands

abbrev pub grouped : List Row → List Band
grouped [] = []
grouped (r ∷ rows) = onto r (grouped rows)
