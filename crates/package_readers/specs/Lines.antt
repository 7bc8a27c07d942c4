-- The packages of lines.
use Rattle.std.specs.Prelude.{ℕ, suc, false, ◌+◌, ◌-◌, ◌==◌, List, [], ◌∷◌, ◌++◌, length, take, drop, Option, None, Result, Ok, Err, if◌then◌else◌, codes, count_by}
use Rattle.std.specs.List.{slice_split, prefix_len, suffix_len}
use Rattle.std.specs.Char.{is_ascii_whitespace}
use Rattle.std.specs.Fmt.{decimal}
use Rattle.std.specs.Str.{is_utf8}
use Rattle.std.specs.Str.Lossy.{utf8_valid_len}
use Rattle.package_items.specs.Rows.{Fault, not_utf8, LicenseRow, PackageRow, on_line}
use Rattle.package_items.specs.Texts.{is_blank, license_in}
use Rattle.package_items.specs.Members.{on_ok}

-- the text without the white space at its ends
abbrev pub trimmed : List ℕ → List ℕ
trimmed text =
    let behind = drop (prefix_len is_ascii_whitespace text) text in
    take (length behind - suffix_len is_ascii_whitespace behind) behind

-- the package of a line, with this name, version and license
abbrev pub on_line_of : ℕ → List ℕ → Option (List ℕ) → LicenseRow → PackageRow
on_line_of number name version license =
    record {
      name = name;
      version = version;
      license = license;
      folder = None;
      license_files = [];
      evidence = 0;
      is_own = false;
      spot = on_line number;
    }

-- the package of a line that holds the text of a license: it is named by the line's number
abbrev pub plain : ℕ → List ℕ → Result PackageRow Fault
plain number text =
    Ok (on_line_of number (codes "line " ++ decimal number) None (license_in (trimmed text)))

-- what each line gives that isn't blank, in their order; lines are counted from the given number on
abbrev pub each_line : (ℕ → List ℕ → Result PackageRow Fault) → ℕ → List (List ℕ) →
    Result (List PackageRow) Fault
each_line read number [] = Ok []
each_line read number (text ∷ more) =
    if is_blank text then each_line read (suc number) more
    else on_ok (read number text)
    (λ p. on_ok (each_line read (suc number) more) (λ ps. Ok (p ∷ ps)))

-- the number of the line with the first byte that is no UTF-8
abbrev pub broken_line : List ℕ → ℕ
broken_line bytes = count_by (λ b. b == 10) (take (utf8_valid_len bytes) bytes) + 1

-- what each line of a text gives that isn't blank
abbrev pub in_lines : (ℕ → List ℕ → Result PackageRow Fault) → List ℕ →
    Result (List PackageRow) Fault
in_lines read bytes =
    if is_utf8 bytes then each_line read 1 (slice_split (λ b. b == 10) bytes)
    else Err (not_utf8 (broken_line bytes))

abbrev pub packages_in_lines : List ℕ → Result (List PackageRow) Fault
packages_in_lines bytes = in_lines plain bytes
