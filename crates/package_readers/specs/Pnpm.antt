-- What `pnpm licenses list --json` writes.
use Rattle.std.specs.Prelude.{ℕ, suc, bytes_eq, List, [], ◌∷◌, ◌++◌, map, length, ◌==◌, Option, Some, None, Result, Ok, if◌then◌else◌, codes}
use Rattle.std.specs.List.{slice_get}
use Rattle.serde_json.specs.Data.{Data}
use Rattle.serde_json.specs.Find.{get}
use Rattle.package_items.specs.Rows.{Fault, LicenseRow, unstated, ItemRow, PackageRow}
use Rattle.package_items.specs.Texts.{license_in}
use Rattle.package_items.specs.Members.{on_ok, text_of, text_if_any}
use Rattle.package_items.specs.Items.{list_items, list_items_if_any, member_items, texts_of, if_object, each, all_of}
use Rattle.package_items.specs.Packages.{said, placed}

-- what the name of a group says: `Unknown` says nothing
abbrev pub license : List ℕ → LicenseRow
license text = if bytes_eq text (codes "Unknown") then unstated else license_in text

-- each of the texts is a version; where there are none, the one that else is told, or that there is
-- none
abbrev pub each_or : Option (List ℕ) → List (List ℕ) → List (Option (List ℕ))
each_or other texts = if length texts == 0 then other ∷ [] else map Some texts

-- the texts at `versions`, or else the one at `version`, which older kinds of pnpm write
abbrev pub versions : ItemRow → Result (List (Option (List ℕ))) Fault
versions i =
    on_ok (list_items_if_any (i.at ++ codes "/versions") (get (codes "versions") i.holds)) (λ is.
    on_ok (texts_of is) (λ texts.
    on_ok (text_if_any (i.at ++ codes "/version") (get (codes "version") i.holds))
    (λ other. Ok (each_or other texts))))

abbrev pub path_of : ItemRow → Result (Option (List ℕ)) Fault
path_of p = text_if_any (p.at ++ codes "") (Some p.holds)

-- the texts at `paths`, some of which may be null, or else the one at `path`, which older kinds of
-- pnpm write
abbrev pub folders : ItemRow → Result (List (Option (List ℕ))) Fault
folders i =
    on_ok (list_items_if_any (i.at ++ codes "/paths") (get (codes "paths") i.holds)) (λ is.
    on_ok (each path_of is) (λ paths.
    on_ok (text_if_any (i.at ++ codes "/path") (get (codes "path") i.holds))
    (λ other. Ok (if length paths == 0 then other ∷ [] else paths))))

abbrev pub told : Option (Option (List ℕ)) → Option (List ℕ)
told None = None
told (Some folder) = folder

-- the folder at that place of the list, if it goes so far
abbrev pub folder_at : List (Option (List ℕ)) → ℕ → Option (List ℕ)
folder_at folders n = told (slice_get folders n)

-- the package of one version, in that folder
abbrev pub version_in : List ℕ → ItemRow → List ℕ → Option (List ℕ) → Option (List ℕ) → PackageRow
version_in text i name folder version =
    placed folder [] (said i name version (license text))

-- a package of that name and license for each version, from the given place of the folders on
abbrev pub each_from : ℕ → List ℕ → ItemRow → List ℕ → List (Option (List ℕ)) →
    List (Option (List ℕ)) → List PackageRow
each_from n text i name folders [] = []
each_from n text i name folders (v ∷ vs) =
    version_in text i name (folder_at folders n) v ∷ each_from (suc n) text i name folders vs

-- a package of that name and license for each version: the first in the first folder, and so on
abbrev pub each_version : List ℕ → ItemRow → List ℕ → List (Option (List ℕ)) →
    List (Option (List ℕ)) → List PackageRow
each_version text i name folders versions = each_from 0 text i name folders versions

-- the packages of an item, under the license that its group is named by
abbrev pub packages_of : List ℕ → ItemRow → Result (List PackageRow) Fault
packages_of text i =
    if_object i (on_ok (text_of (i.at ++ codes "/name") (get (codes "name") i.holds))
    (λ name. on_ok (versions i) (λ vs. on_ok (folders i) (λ fs.
    Ok (each_version text i name fs vs)))))

abbrev pub group_packages : ItemRow → Result (List PackageRow) Fault
group_packages g =
    on_ok (list_items (g.at ++ codes "") (Some g.holds)) (λ is. all_of (packages_of g.key) is)

-- the packages of each group, one group behind the other
abbrev pub pnpm_packages : Data → Result (List PackageRow) Fault
pnpm_packages d = on_ok (member_items (codes "") (Some d)) (λ groups. all_of group_packages groups)
