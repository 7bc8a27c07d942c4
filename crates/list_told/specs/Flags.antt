-- The flags of a row, in words.
use Rattle.std.specs.Prelude.{ℕ, Bool, List, [], ◌∷◌, ◌++◌, codes, filter, flat_map, map}
use Rattle.std.specs.Borrow.{Bor}
use Rattle.spdx_requirement.specs.Rows.{ExceptionRow, LicenseRow}
use Rattle.spdx_requirement.specs.Flags.{is_copyleft, is_deprecated, is_fsf_free_libre, is_gnu, is_osi_approved}

-- whether a flag is set, and its word
abbrev pub flag_of : Bool × Bor (List ℕ) → Bool × List ℕ
flag_of flag = (flag.0, flag.1.now)

-- the words of those that are set
abbrev pub set_words : List (Bool × List ℕ) → List (List ℕ)
set_words flags = map (λ flag. flag.1) (filter (λ flag. flag.0) flags)

unfoldable pub license_flags : LicenseRow → List (List ℕ)
license_flags r =
    set_words
    ((is_osi_approved r.flags, codes "OSI approved")
    ∷ (is_fsf_free_libre r.flags, codes "FSF libre")
    ∷ (is_copyleft r.flags, codes "copyleft")
    ∷ (is_gnu r.flags, codes "GNU")
    ∷ (is_deprecated r.flags, codes "deprecated")
    ∷ [])

unfoldable pub exception_flags : ExceptionRow → List (List ℕ)
exception_flags r = set_words ((is_deprecated r.flags, codes "deprecated") ∷ [])

-- their line, where any is set
abbrev pub flags_line : List (List ℕ) → List ℕ
flags_line [] = []
flags_line (word ∷ words) =
    codes "  flags: " ++ (word ++ (flat_map (λ w. codes ", " ++ w) words ++ codes "\n"))
