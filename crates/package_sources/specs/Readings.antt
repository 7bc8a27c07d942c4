-- How items are read as packages.
use Rattle.std.specs.Prelude.{ℕ, List, [], ◌∷◌, ◌++◌, Bool, false, bytes_eq, Option, Some, None, Result, Ok, if◌then◌else◌, codes}
use Rattle.std.specs.Borrow.{Bor}
use Rattle.serde_json.specs.Data.{Data, string}
use Rattle.serde_json.specs.Find.{get, pointer}
use Rattle.package_sources.specs.declared.form.Pointers.{Pointers}
use Rattle.package_sources.specs.declared.reading.Reading.{Reading}
use Rattle.package_sources.specs.declared.reading.Reading.TheVariants as reading
use Rattle.package_sources.specs.declared.several.Entry.TheVariants as entry
use Rattle.package_items.specs.Rows.{Fault, LicenseRow, unstated, ItemRow, PackageRow}
use Rattle.package_items.specs.Members.{on_ok, text_of, text_if_any, license_at}
use Rattle.package_items.specs.Items.{list_items, if_object, each}
use Rattle.package_items.specs.Packages.{said_of, placed}
use Rattle.package_items.specs.Paths.{folder_in, file_in}
use Rattle.package_sources.specs.Several.{choice_of}
use Rattle.package_sources.specs.declared.formats.npm.Lies.{Lies}
use Rattle.package_sources.specs.Npm.{is_list, name_of, npm_license, folder}
use Rattle.package_sources.specs.CycloneDx.{cyclonedx}

-- ---- pointers

abbrev pub pointed_version : Option (Bor (List ℕ)) → ItemRow → Result (Option (List ℕ)) Fault
pointed_version None i = Ok None
pointed_version (Some p) i = text_if_any (i.at ++ p.now) (pointer p.now i.holds)

abbrev pub pointed : Pointers → ItemRow → Result PackageRow Fault
pointed p i =
    said_of i (text_of (i.at ++ p.name.now) (pointer p.name.now i.holds))
    (pointed_version p.version i)
    (license_at (i.at ++ p.license.now) (pointer p.license.now i.holds))

-- ---- npm

abbrev pub npm_said : ItemRow → Result PackageRow Fault
npm_said i =
    said_of i (name_of i)
    (text_if_any (i.at ++ codes "/version") (get (codes "version") i.holds)) (npm_license i)

abbrev pub npm : Lies → ItemRow → Result PackageRow Fault
npm l i = if_object i (on_ok (npm_said i) (λ p. on_ok (folder l i) (λ f. Ok (placed f [] p))))

-- ---- Composer

-- a text, or a list of texts, of which each is a choice
abbrev pub composer_license : ItemRow → Result LicenseRow Fault
composer_license i =
    if is_list (get (codes "license") i.holds)
    then on_ok (list_items (i.at ++ codes "/license") (get (codes "license") i.holds))
    (choice_of entry.Text)
    else license_at (i.at ++ codes "/license") (get (codes "license") i.holds)

abbrev pub composer : ItemRow → Result PackageRow Fault
composer i =
    if_object i (said_of i (name_of i)
    (text_if_any (i.at ++ codes "/version") (get (codes "version") i.holds))
    (composer_license i))

-- ---- pip

abbrev pub is_unknown : Option Data → Bool
is_unknown (Some (string s)) = bytes_eq s (codes "UNKNOWN")
is_unknown found = false

-- `UNKNOWN` states nothing
abbrev pub pip_license : ItemRow → Result LicenseRow Fault
pip_license i =
    if is_unknown (get (codes "License") i.holds) then Ok unstated
    else license_at (i.at ++ codes "/License") (get (codes "License") i.holds)

-- the path of the file with the text of the license; `UNKNOWN` is none
abbrev pub pip_file : ItemRow → Result (Option (List ℕ)) Fault
pip_file i =
    if is_unknown (get (codes "LicenseFile") i.holds) then Ok None
    else text_if_any (i.at ++ codes "/LicenseFile") (get (codes "LicenseFile") i.holds)

-- a package lies where the text of its license does
abbrev pub with_text : Option (List ℕ) → PackageRow → PackageRow
with_text None p = p
with_text (Some path) p = placed (Some (folder_in path)) (file_in path ∷ []) p

abbrev pub pip_said : ItemRow → Result PackageRow Fault
pip_said i =
    said_of i (text_of (i.at ++ codes "/Name") (get (codes "Name") i.holds))
    (text_if_any (i.at ++ codes "/Version") (get (codes "Version") i.holds)) (pip_license i)

abbrev pub pip : ItemRow → Result PackageRow Fault
pip i =
    if_object i (on_ok (pip_said i) (λ p. on_ok (pip_file i) (λ path. Ok (with_text path p))))

-- ---- each form

-- the package that an item is
abbrev pub package_of : Reading → ItemRow → Result PackageRow Fault
package_of (reading.Pointed p) i = pointed p i
package_of (reading.Npm l) i = npm l i
package_of reading.Composer i = composer i
package_of reading.Pip i = pip i
package_of reading.CycloneDx i = cyclonedx i

-- the packages that items are: each is one, in their order
abbrev pub packages_of : Reading → List ItemRow → Result (List PackageRow) Fault
packages_of r items = each (λ i. package_of r i) items
