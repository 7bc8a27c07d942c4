-- What `cargo metadata` writes.
use Rattle.std.specs.Prelude.{ℕ, Bool, false, bytes_eq, List, ◌++◌, Option, Some, Result, Ok, option_map, codes}
use Rattle.std.specs.List.{list_any}
use Rattle.std.specs.Option.{option_to_list}
use Rattle.serde_json.specs.Data.{Data, string}
use Rattle.serde_json.specs.Find.{get}
use Rattle.package_items.specs.Rows.{Fault, LicenseRow, ItemRow, PackageRow}
use Rattle.package_items.specs.Members.{on_ok, text_of, text_if_any, license_if_any}
use Rattle.package_items.specs.Items.{if_object, each}
use Rattle.package_items.specs.Packages.{said, placed, owned}
use Rattle.package_items.specs.Paths.{folder_in}
use Rattle.package_sources.specs.Texts.{slashes_as_or}

abbrev pub cargo_license : ItemRow → Result LicenseRow Fault
cargo_license i =
    on_ok (text_if_any (i.at ++ codes "/license") (get (codes "license") i.holds)) (λ text.
    Ok (license_if_any (option_map slashes_as_or text)))

abbrev pub is_text : List ℕ → Data → Bool
is_text text (string s) = bytes_eq s text
is_text text d = false

abbrev pub is_item : List ℕ → ItemRow → Bool
is_item text i = is_text text i.holds

abbrev pub is_among : List ItemRow → Option Data → Bool
is_among members (Some (string id)) = list_any (is_item id) members
is_among members found = false

-- whether the package is a member of the workspace
abbrev pub is_own : List ItemRow → ItemRow → Bool
is_own members i = is_among members (get (codes "id") i.holds)

-- the folder of the manifest
abbrev pub folder : ItemRow → Result (Option (List ℕ)) Fault
folder i =
    on_ok (text_if_any (i.at ++ codes "/manifest_path") (get (codes "manifest_path") i.holds))
    (λ path. Ok (option_map folder_in path))

-- the package that an item is; the members of the workspace are one's own
abbrev pub cargo : List ItemRow → ItemRow → Result PackageRow Fault
cargo members i =
    if_object i (on_ok (text_of (i.at ++ codes "/name") (get (codes "name") i.holds)) (λ name.
    on_ok (text_if_any (i.at ++ codes "/version") (get (codes "version") i.holds)) (λ version.
    on_ok (cargo_license i) (λ license.
    on_ok (text_if_any (i.at ++ codes "/license_file") (get (codes "license_file") i.holds))
    (λ file. on_ok (folder i) (λ f.
    Ok (owned (is_own members i)
    (placed f (option_to_list file) (said i name version license)))))))))

-- the packages that items are: each is one, in their order
abbrev pub cargo_packages : List ItemRow → List ItemRow → Result (List PackageRow) Fault
cargo_packages members is = each (λ i. cargo members i) is
