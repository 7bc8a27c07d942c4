-- A METADATA or PKG-INFO file of a Python package.
use Rattle.std.specs.Prelude.{ℕ, not, Bool, ◌&&◌, ◌||◌, ◌==◌, nat_eq, nat_lt, bytes_eq, List, [], ◌∷◌, ◌++◌, length, map, filter, flat_map, count_by, option_map, Option, Some, None, Result, Ok, Err, if◌then◌else◌, codes}
use Rattle.std.specs.List.{slice_split, starts_with, position_or_len, before_first, after_first}
use Rattle.std.specs.Str.{is_utf8, str_eq_ignore_ascii_case}
use Rattle.package_items.specs.Rows.{Fault, not_utf8, no_field, LicenseRow, stated, unstated, PackageRow}
use Rattle.package_items.specs.Texts.{is_blank, license_in}
use Rattle.package_items.specs.Members.{on_ok, license_if_any}
use Rattle.package_items.specs.Packages.{placed, with_evidence}
use Rattle.package_readers.specs.Lines.{trimmed, on_line_of, broken_line}

-- a line that is empty, but for a carriage return, ends the fields
abbrev pub is_end : List ℕ → Bool
is_end line = (length line == 0) || bytes_eq line (13 ∷ [])

abbrev pub head_of : List (List ℕ) → List (List ℕ)
head_of [] = []
head_of (l ∷ ls) = if is_end l then [] else l ∷ head_of ls

-- a line that begins with a blank or a tab goes on with the field before it
abbrev pub is_folded : List ℕ → Bool
is_folded line = starts_with nat_eq line (codes " ") || starts_with nat_eq line (9 ∷ [])

abbrev pub folded : List (List ℕ) → List (List ℕ)
folded [] = []
folded (l ∷ ls) = if is_folded l then l ∷ folded ls else []

abbrev pub with_folded : List ℕ → List (List ℕ) → List (List ℕ)
with_folded text lines = text ∷ folded lines

abbrev pub is_colon : ℕ → Bool
is_colon b = b == 58

-- what stands behind the first colon of a line, if before it stands this name, in any case
abbrev pub behind_name : List ℕ → List ℕ → Option (List ℕ)
behind_name name line =
    if nat_lt (position_or_len is_colon line) (length line)
    && str_eq_ignore_ascii_case (before_first is_colon line) name
    then Some (after_first is_colon line) else None

abbrev pub field_or : Option (List ℕ) → List (List ℕ) → Option (List (List ℕ)) →
    Option (List (List ℕ))
field_or None more next = next
field_or (Some text) more next = Some (with_folded text more)

-- the lines of the first field of that name
abbrev pub field : List ℕ → List (List ℕ) → Option (List (List ℕ))
field name [] = None
field name (l ∷ ls) = field_or (behind_name name l) ls (field name ls)

abbrev pub behind_blank : List ℕ → List ℕ
behind_blank line = codes " " ++ trimmed line

abbrev pub unfolded : List (List ℕ) → List ℕ
unfolded lines = flat_map behind_blank lines

-- the text of lines, on one line: with a blank between each two
abbrev pub text_in : List (List ℕ) → List ℕ
text_in lines = trimmed (unfolded lines)

abbrev pub unless_empty : Option (List ℕ) → Option (List ℕ)
unless_empty None = None
unless_empty (Some text) = if length text == 0 then None else Some text

-- the text of the first field of that name, if it has one
abbrev pub text_at : List ℕ → List (List ℕ) → Option (List ℕ)
text_at name head = unless_empty (option_map text_in (field name head))

-- what stands behind the name, and the lines that go on with it, if it begins with the name
abbrev pub with_first : Option (List ℕ) → List (List ℕ) → List (List (List ℕ)) →
    List (List (List ℕ))
with_first None more others = others
with_first (Some text) more others = with_folded text more ∷ others

-- the lines of each field of that name
abbrev pub fields : List ℕ → List (List ℕ) → List (List (List ℕ))
fields name [] = []
fields name (l ∷ ls) = with_first (behind_name name l) ls (fields name ls)

-- the texts of all fields of that name that have one, in their order
abbrev pub texts_at : List ℕ → List (List ℕ) → List (List ℕ)
texts_at name head = filter (λ text. not (length text == 0)) (map text_in (fields name head))

-- how many of the lines aren't blank
abbrev pub written : List (List ℕ) → ℕ
written lines = count_by (λ l. not (is_blank l)) lines

-- several lines are the text of a license, and name none; nor does `UNKNOWN`
abbrev pub said_by_lines : List (List ℕ) → LicenseRow
said_by_lines lines =
    if nat_lt 1 (written lines) || bytes_eq (text_in lines) (codes "UNKNOWN") then unstated
    else license_in (text_in lines)

abbrev pub said_by_field : Option (List (List ℕ)) → LicenseRow
said_by_field None = unstated
said_by_field (Some lines) = said_by_lines lines

abbrev pub old_license : List (List ℕ) → LicenseRow
old_license head = said_by_field (field (codes "License") head)

abbrev pub new_license : List (List ℕ) → LicenseRow
new_license head = license_if_any (text_at (codes "License-Expression") head)

abbrev pub stated_or : LicenseRow → LicenseRow → LicenseRow
stated_or (stated text) next = stated text
stated_or unstated next = next

-- the expression, or else what `License` says
abbrev pub license : List (List ℕ) → LicenseRow
license head = stated_or (new_license head) (old_license head)

abbrev pub texts_in_field : Option (List (List ℕ)) → ℕ
texts_in_field None = 0
texts_in_field (Some lines) = if nat_lt 1 (written lines) then 1 else 0

-- how many texts of licenses the fields hold
abbrev pub texts_held : List (List ℕ) → ℕ
texts_held head = texts_in_field (field (codes "License") head)

abbrev pub named : List (List ℕ) → Option (List ℕ) → Result PackageRow Fault
named head None = Err (no_field (codes "Name"))
named head (Some name) =
    Ok (with_evidence (texts_held head)
    (placed (Some (codes ".")) (texts_at (codes "License-File") head)
    (on_line_of 1 name (text_at (codes "Version") head) (license head))))

-- the package that the fields tell
abbrev pub package_of : List (List ℕ) → Result PackageRow Fault
package_of head = named head (text_at (codes "Name") head)

-- the package of the file, by the lines before the first that is empty
abbrev pub metadata_packages : List ℕ → Result (List PackageRow) Fault
metadata_packages bytes =
    if is_utf8 bytes then on_ok (package_of (head_of (slice_split (λ b. b == 10) bytes)))
    (λ p. Ok (p ∷ []))
    else Err (not_utf8 (broken_line bytes))
