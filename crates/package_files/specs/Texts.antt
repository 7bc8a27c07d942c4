-- The references of a license's text.
use Rattle.std.specs.Prelude.{ℕ, Bool, not, ◌&&◌, ◌||◌, ◌==◌, nat_eq, List, [], ◌∷◌, if◌then◌else◌, take_while, codes}
use Rattle.std.specs.List.{starts_with}
use Rattle.std.specs.Char.{is_ascii_alphanumeric}

-- letters, digits, `.` and `-`
abbrev pub is_name_byte : ℕ → Bool
is_name_byte b = is_ascii_alphanumeric b || ((b == 46) || (b == 45))

-- whether a reference begins where the text goes on so, behind that byte; behind a colon it is of a
-- document that is named
abbrev pub begins_behind : ℕ → List ℕ → Bool
begins_behind before text =
    starts_with nat_eq text (codes "LicenseRef-") &&
    (not (is_name_byte before) && not (before == 58))

-- the references of a text that stands behind that byte: each is a whole name
abbrev pub references_behind : ℕ → List ℕ → List (List ℕ)
references_behind before [] = []
references_behind before (b ∷ bs) =
    if begins_behind before (b ∷ bs) then take_while is_name_byte (b ∷ bs) ∷ references_behind b bs
    else references_behind b bs

-- the start of a text is as what stands behind a blank
abbrev pub references_in : List ℕ → List (List ℕ)
references_in text = references_behind 32 text
