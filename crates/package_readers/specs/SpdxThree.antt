-- SPDX 3, as JSON-LD.
use Rattle.std.specs.Prelude.{ℕ, nat_eq, not, false, Bool, ◌&&◌, ◌||◌, bytes_eq, List, [], ◌∷◌, ◌++◌, map, length, drop, Option, Some, None, Result, Ok, if◌then◌else◌, codes}
use Rattle.std.specs.List.{starts_with, ends_with}
use Rattle.serde_json.specs.Data.{Data}
use Rattle.serde_json.specs.Find.{get}
use Rattle.package_items.specs.Rows.{Fault, LicenseRow, ItemRow, PackageRow}
use Rattle.package_items.specs.Texts.{license_of_all}
use Rattle.package_items.specs.Members.{on_ok, text_of, text_if_any}
use Rattle.package_items.specs.Items.{list_items, root_item, texts_of, if_object, all_of}
use Rattle.package_items.specs.Packages.{said}
use Rattle.package_readers.specs.declared.spdx_three.Relation.{Relation}
use Rattle.package_readers.specs.declared.spdx_three.Wording.{Wording}
use Rattle.package_readers.specs.LicenseChecker.{is_list}
use Rattle.package_readers.specs.Metadata.{stated_or}

-- that an element has a license, by its id and that of the license
pub record RelationRow : Type 0 where
  pub kind : List ℕ
  pub from : List ℕ
  pub to : List ℕ

abbrev pub relation_row : Relation → RelationRow
relation_row r = record { kind = r.kind.now; from = r.from.now; to = r.to.now }

-- the text of a license, by its id
pub record WordingRow : Type 0 where
  pub id : List ℕ
  pub text : List ℕ

abbrev pub wording_row : Wording → WordingRow
wording_row w = record { id = w.id.now; text = w.text.now }

-- ---- the elements

abbrev pub elements_in : Data → Option Data → Result (List ItemRow) Fault
elements_in d None = Ok (root_item [] false d ∷ [])
elements_in d (Some graph) = list_items (codes "/@graph") (Some graph)

-- those of the graph, or the document, which is one
abbrev pub elements : Data → Result (List ItemRow) Fault
elements d = elements_in d (get (codes "@graph") d)

abbrev pub type_of : ItemRow → Result (List ℕ) Fault
type_of i = if_object i (text_of (i.at ++ codes "/type") (get (codes "type") i.holds))

-- what an element of that type gives; others give nothing
abbrev pub of_type : {A : Type 0} → List ℕ → ItemRow → Result (List A) Fault → Result (List A) Fault
of_type name i gives = on_ok (type_of i) (λ t. if not (bytes_eq t name) then Ok [] else gives)

-- ---- the relations that tell licenses

-- a list of ids, or one alone
abbrev pub targets_at : List ℕ → Option Data → Result (List (List ℕ)) Fault
targets_at at found =
    if is_list found then on_ok (list_items at found) texts_of
    else on_ok (text_of at found) (λ t. Ok (t ∷ []))

abbrev pub targets : ItemRow → Result (List (List ℕ)) Fault
targets i = targets_at (i.at ++ codes "/to") (get (codes "to") i.holds)

abbrev pub each_target : List ℕ → List ℕ → List (List ℕ) → List RelationRow
each_target kind from targets = map (λ t. record { kind = kind; from = from; to = t }) targets

abbrev pub tells_license : List ℕ → Bool
tells_license kind =
    bytes_eq kind (codes "hasConcludedLicense") || bytes_eq kind (codes "hasDeclaredLicense")

abbrev pub relations_told : ItemRow → Result (List RelationRow) Fault
relations_told i =
    on_ok (text_of (i.at ++ codes "/relationshipType") (get (codes "relationshipType") i.holds))
    (λ kind.
    if not (tells_license kind) then Ok []
    else on_ok (text_of (i.at ++ codes "/from") (get (codes "from") i.holds)) (λ from.
    on_ok (targets i) (λ ts. Ok (each_target kind from ts))))

abbrev pub relations_of : ItemRow → Result (List RelationRow) Fault
relations_of i = of_type (codes "Relationship") i (relations_told i)

abbrev pub relations : List ItemRow → Result (List RelationRow) Fault
relations is = all_of relations_of is

-- ---- the texts of licenses

abbrev pub wording_told : ItemRow → Result (List WordingRow) Fault
wording_told i =
    on_ok (text_of (i.at ++ codes "/spdxId") (get (codes "spdxId") i.holds)) (λ id.
    on_ok (text_of (i.at ++ codes "/simplelicensing_licenseExpression")
    (get (codes "simplelicensing_licenseExpression") i.holds)) (λ t.
    Ok (record { id = id; text = t } ∷ [])))

abbrev pub wordings_of : ItemRow → Result (List WordingRow) Fault
wordings_of i = of_type (codes "simplelicensing_LicenseExpression") i (wording_told i)

abbrev pub wordings : List ItemRow → Result (List WordingRow) Fault
wordings is = all_of wordings_of is

-- the two individuals, for no license and for none that is known, by their short names and by their
-- full ones
abbrev pub is_individual : List ℕ → Bool
is_individual id =
    ends_with nat_eq id (codes "NoAssertionLicense") || ends_with nat_eq id (codes "NoneLicense")

abbrev pub home : List ℕ
home = codes "https://spdx.org/licenses/"

-- the text of a license that no element spells out: of a listed one its name, of another one its id
abbrev pub listed : List ℕ → List ℕ
listed id =
    if is_individual id then codes "NOASSERTION" else if starts_with nat_eq id home
    then drop (length home) id else id

-- the text of the license of that id
abbrev pub text_for : List WordingRow → List ℕ → List ℕ
text_for [] id = listed id
text_for (w ∷ ws) id = if bytes_eq w.id id then w.text else text_for ws id

-- ---- packages

-- the texts of the licenses that relations of this kind lead to from an id
abbrev pub texts_for : List WordingRow → List ℕ → List ℕ → List RelationRow → List (List ℕ)
texts_for ws kind from [] = []
texts_for ws kind from (r ∷ rs) =
    if bytes_eq r.kind kind && bytes_eq r.from from then text_for ws r.to ∷
    texts_for ws kind from rs
    else texts_for ws kind from rs

-- what relations of this kind tell: all licenses hold
abbrev pub license_by : List RelationRow → List WordingRow → List ℕ → List ℕ → LicenseRow
license_by rs ws kind from = license_of_all (codes " AND ") (texts_for ws kind from rs)

-- the concluded license if it is stated, else the declared one
abbrev pub license : List RelationRow → List WordingRow → List ℕ → LicenseRow
license rs ws id =
    stated_or (license_by rs ws (codes "hasConcludedLicense") id)
    (license_by rs ws (codes "hasDeclaredLicense") id)

-- the package that an element is
abbrev pub package_of : List RelationRow → List WordingRow → ItemRow → Result PackageRow Fault
package_of rs ws i =
    on_ok (text_of (i.at ++ codes "/spdxId") (get (codes "spdxId") i.holds)) (λ id.
    on_ok (text_of (i.at ++ codes "/name") (get (codes "name") i.holds)) (λ name.
    on_ok (text_if_any (i.at ++ codes "/software_packageVersion")
    (get (codes "software_packageVersion") i.holds)) (λ version.
    Ok (said i name version (license rs ws id)))))

abbrev pub packages_of : List RelationRow → List WordingRow → ItemRow →
    Result (List PackageRow) Fault
packages_of rs ws i =
    of_type (codes "software_Package") i (on_ok (package_of rs ws i) (λ p. Ok (p ∷ [])))

abbrev pub all_packages : List RelationRow → List WordingRow → List ItemRow →
    Result (List PackageRow) Fault
all_packages rs ws is = all_of (packages_of rs ws) is

-- the packages of the elements, in their order
abbrev pub graph_packages : Data → Result (List PackageRow) Fault
graph_packages d =
    on_ok (elements d) (λ is.
    on_ok (relations is) (λ rs. on_ok (wordings is) (λ ws. all_packages rs ws is)))
