-- What `license-checker --json` writes.
use Rattle.std.specs.Prelude.{ℕ, ◌==◌, nat_eq, Bool, true, false, ◌||◌, bytes_eq, List, ◌++◌, length, Option, Some, None, option_map, Result, Ok, if◌then◌else◌, codes}
use Rattle.std.specs.List.{ends_with}
use Rattle.std.specs.Option.{option_to_list}
use Rattle.std.specs.Path.{rsplit_once}
use Rattle.serde_json.specs.Data.{Data, string, array}
use Rattle.serde_json.specs.Find.{get}
use Rattle.package_items.specs.Rows.{Fault, LicenseRow, unstated, ItemRow, PackageRow}
use Rattle.package_items.specs.Texts.{license_in, license_of_all}
use Rattle.package_items.specs.Members.{on_ok, text_if_any}
use Rattle.package_items.specs.Items.{list_items, member_items, texts_of, if_object, each}
use Rattle.package_items.specs.Packages.{said, placed, with_evidence}
use Rattle.package_items.specs.Paths.{file_within}

-- both parts of a key; there are none if the first is empty, for a scope of names begins with an at
-- sign
abbrev pub unless_first : Option (List ℕ × List ℕ) → Option (List ℕ × List ℕ)
unless_first None = None
unless_first (Some parts) = if length parts.0 == 0 then None else Some parts

-- the name and the version round the last at sign of a key, unless the key begins with it
abbrev pub parts_of : List ℕ → Option (List ℕ × List ℕ)
parts_of key = unless_first (rsplit_once 64 key)

abbrev pub first_or : List ℕ → Option (List ℕ × List ℕ) → List ℕ
first_or key None = key
first_or key (Some parts) = parts.0

abbrev pub second : Option (List ℕ × List ℕ) → Option (List ℕ)
second None = None
second (Some parts) = if length parts.1 == 0 then None else Some parts.1

abbrev pub name_of : List ℕ → List ℕ
name_of key = first_or key (parts_of key)

abbrev pub version_of : List ℕ → Option (List ℕ)
version_of key = second (parts_of key)

-- a text that ends in a star was guessed from the words of a file
abbrev pub is_guess : List ℕ → Bool
is_guess text = ends_with nat_eq text (codes "*")

-- a guess says nothing, nor does `UNKNOWN`
abbrev pub license_said : List ℕ → LicenseRow
license_said text =
    if is_guess text || bytes_eq text (codes "UNKNOWN") then unstated else license_in text

abbrev pub said_if_any : Option (List ℕ) → LicenseRow
said_if_any None = unstated
said_if_any (Some text) = license_said text

abbrev pub is_list : Option Data → Bool
is_list (Some (array ds)) = true
is_list found = false

-- a text, or a list of texts, of which each is a choice
abbrev pub license_at : List ℕ → Option Data → Result LicenseRow Fault
license_at at found =
    if is_list found then on_ok (list_items at found) (λ is.
    on_ok (texts_of is) (λ ts. Ok (license_of_all (codes " OR ") ts)))
    else on_ok (text_if_any at found) (λ text. Ok (said_if_any text))

abbrev pub license : ItemRow → Result LicenseRow Fault
license i = license_at (i.at ++ codes "/licenses") (get (codes "licenses") i.holds)

-- how many licenses are guesses
abbrev pub guesses_in : Option Data → ℕ
guesses_in (Some (string s)) = if is_guess s then 1 else 0
guesses_in found = 0

abbrev pub guesses : ItemRow → ℕ
guesses i = guesses_in (get (codes "licenses") i.holds)

-- the file that is named, from the folder if it lies below it
abbrev pub files : Option (List ℕ) → Option (List ℕ) → List (List ℕ)
files folder file = option_to_list (option_map (file_within folder) file)

-- the package that a member is; what is guessed is evidence
abbrev pub checked : ItemRow → Result PackageRow Fault
checked i =
    if_object i (on_ok (license i) (λ l.
    on_ok (text_if_any (i.at ++ codes "/licenseFile") (get (codes "licenseFile") i.holds)) (λ file.
    on_ok (text_if_any (i.at ++ codes "/path") (get (codes "path") i.holds)) (λ folder.
    Ok (with_evidence (guesses i) (placed folder (files folder file)
    (said i (name_of i.key) (version_of i.key) l)))))))

-- the packages of the members: each is one, in their order
abbrev pub checked_packages : Data → Result (List PackageRow) Fault
checked_packages d = on_ok (member_items (codes "") (Some d)) (λ is. each checked is)
