-- SPDX 2.
use Rattle.std.specs.Prelude.{ℕ, Bool, false, bytes_eq, List, ◌++◌, Option, Some, None, Result, Ok, Err, codes}
use Rattle.serde_json.specs.Data.{Data, string}
use Rattle.serde_json.specs.Find.{get}
use Rattle.package_items.specs.Rows.{Fault, LicenseRow, unstated, stated, ItemRow, PackageRow}
use Rattle.package_items.specs.Members.{on_ok, text_of, text_if_any, license_at}
use Rattle.package_items.specs.Items.{list_items, object_at, if_object, each}
use Rattle.package_items.specs.Packages.{said_of, owned}

-- the first, if it is stated, else the next
abbrev pub stated_first : Result LicenseRow Fault → Result LicenseRow Fault →
    Result LicenseRow Fault
stated_first (Err f) next = Err f
stated_first (Ok (stated text)) next = Ok (stated text)
stated_first (Ok unstated) next = next

-- the concluded license if it is stated, else the declared one
abbrev pub license : ItemRow → Result LicenseRow Fault
license i =
    stated_first (license_at (i.at ++ codes "/licenseConcluded")
    (get (codes "licenseConcluded") i.holds))
    (license_at (i.at ++ codes "/licenseDeclared") (get (codes "licenseDeclared") i.holds))

abbrev pub is_id : Option (List ℕ) → Option Data → Bool
is_id (Some id) (Some (string s)) = bytes_eq s id
is_id root found = false

-- the package that an item is; the one that the document is about is one's own
abbrev pub spdx : Option (List ℕ) → ItemRow → Result PackageRow Fault
spdx root i =
    if_object i (on_ok (said_of i (text_of (i.at ++ codes "/name") (get (codes "name") i.holds))
    (text_if_any (i.at ++ codes "/versionInfo") (get (codes "versionInfo") i.holds)) (license i))
    (λ p. Ok (owned (is_id root (get (codes "SPDXID") i.holds)) p)))

-- the packages that items are: each is one, in their order
abbrev pub spdx_packages : Option (List ℕ) → List ItemRow → Result (List PackageRow) Fault
spdx_packages root is = each (λ i. spdx root i) is

abbrev pub items_in : Data → Option Data → Result (List ItemRow) Fault
items_in d (Some bill) =
    on_ok (object_at (codes "/sbom") (Some bill))
    (λ b. list_items (codes "/sbom/packages") (get (codes "packages") b))
items_in d None = list_items (codes "/packages") (get (codes "packages") d)

-- the packages of a document, or of the bill that GitHub wraps
abbrev pub items : Data → Result (List ItemRow) Fault
items d = items_in d (get (codes "sbom") d)
