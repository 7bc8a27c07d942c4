-- The lines of what changed between two lists.
use Rattle.std.specs.Prelude.{◌≡◌, ℕ, Bool, true, false, not, ◌&&◌, List, [], ◌∷◌, ◌++◌, Option, None, Some, bytes_eq, codes, if◌then◌else◌}
use Rattle.spdx_requirement.specs.Rows.{ExceptionRow, LicenseRow, Rows}
use Rattle.spdx_requirement.specs.Flags.{is_copyleft, is_deprecated, is_fsf_free_libre, is_gnu, is_osi_approved}
use Rattle.spdx_list.specs.Files.{ExtraRows}
use Rattle.list_told.specs.declared.changes.Flag.{Flag}
use Rattle.list_told.specs.declared.changes.Flag.TheVariants as flag
use Rattle.list_told.specs.Replacements.{IsReplacementIf}
use Rattle.list_told.specs.Texts.{line}

-- ---- what came and went

abbrev pub added_license : LicenseRow → List ℕ
added_license r = line (codes "added: " ∷ r.name ∷ codes " (" ∷ r.full_name ∷ codes ")" ∷ [])

unfoldable pub exception_added : List ℕ → List ℕ
exception_added name = line (codes "added: " ∷ name ∷ codes " (an exception)" ∷ [])

abbrev pub added_exception : ExceptionRow → List ℕ
added_exception r = exception_added r.name

abbrev pub removed_line : List ℕ → List ℕ
removed_line name = line (codes "removed: " ∷ name ∷ [])

-- ---- what changed of a row

abbrev pub replacement_parts : Option (List ℕ) → List (List ℕ)
replacement_parts None = []
replacement_parts (Some replacement) = codes ": write " ∷ replacement ∷ []

abbrev pub deprecated_line : List ℕ → Option (List ℕ) → List ℕ
deprecated_line name replacement =
    line (codes "deprecated: " ∷ name ∷ replacement_parts replacement)

-- whether the name was deprecated, and whether it is
unfoldable pub deprecation_line : Bool → Bool → List ℕ → Option (List ℕ) → List ℕ
deprecation_line false false name replacement = []
deprecation_line false true name replacement = deprecated_line name replacement
deprecation_line true false name replacement =
    line (codes "changed: " ∷ name ∷ codes ": no longer deprecated" ∷ [])
deprecation_line true true name replacement = []

abbrev pub flag_word : Flag → List ℕ
flag_word flag.OsiApproved = codes "OSI approved"
flag_word flag.FsfLibre = codes "FSF libre"
flag_word flag.Copyleft = codes "copyleft"
flag_word flag.Gnu = codes "GNU"

abbrev pub is_set : Flag → ℕ → Bool
is_set flag.OsiApproved flags = is_osi_approved flags
is_set flag.FsfLibre flags = is_fsf_free_libre flags
is_set flag.Copyleft flags = is_copyleft flags
is_set flag.Gnu flags = is_gnu flags

-- whether a flag of this word was set, and whether it is
unfoldable pub set_line : Bool → Bool → List ℕ → List ℕ → List ℕ
set_line false false name word = []
set_line false true name word = line (codes "changed: " ∷ name ∷ codes ": now " ∷ word ∷ [])
set_line true false name word = line (codes "changed: " ∷ name ∷ codes ": no longer " ∷ word ∷ [])
set_line true true name word = []

unfoldable pub flag_line : Flag → LicenseRow → LicenseRow → List ℕ
flag_line f old new = set_line (is_set f old.flags) (is_set f new.flags) new.name (flag_word f)

unfoldable pub full_name_line : LicenseRow → LicenseRow → List ℕ
full_name_line old new =
    if bytes_eq old.full_name new.full_name then []
    else
    line
    (codes "changed: " ∷ new.name ∷ codes ": its name was " ∷ old.full_name ∷ codes ", and is "
    ∷ new.full_name
    ∷ [])

unfoldable pub license_lines : LicenseRow → LicenseRow → Option (List ℕ) → List ℕ
license_lines old new replacement =
    deprecation_line (is_deprecated old.flags) (is_deprecated new.flags) new.name replacement ++
    (flag_line flag.OsiApproved old new ++
    (flag_line flag.FsfLibre old new ++
    (flag_line flag.Copyleft old new ++
    (flag_line flag.Gnu old new ++ full_name_line old new))))

-- ---- with what to write in place of a name that is deprecated now and wasn't

abbrev pub is_newly : Bool → Bool → Bool
is_newly was is = not was && is

pub record IsLicenseChange (c : Rows) (x : ExtraRows) (rows : LicenseRow × LicenseRow)
    (text : List ℕ) : Type 0 where
  pub replacement : Option (List ℕ)
  pub replacement_is :
      IsReplacementIf (is_newly (is_deprecated rows.0.flags) (is_deprecated rows.1.flags)) c x
      rows.1.name replacement
  pub text_is : text ≡ license_lines rows.0 rows.1 replacement

pub record IsExceptionChange (c : Rows) (x : ExtraRows) (rows : ExceptionRow × ExceptionRow)
    (text : List ℕ) : Type 0 where
  pub replacement : Option (List ℕ)
  pub replacement_is :
      IsReplacementIf (is_newly (is_deprecated rows.0.flags) (is_deprecated rows.1.flags)) c x
      rows.1.name replacement
  pub text_is :
      text ≡ deprecation_line (is_deprecated rows.0.flags) (is_deprecated rows.1.flags)
      rows.1.name replacement
