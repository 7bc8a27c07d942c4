-- CycloneDX.
use Rattle.std.specs.Prelude.{ℕ, ◌==◌, Bool, true, false, not, ◌||◌, bytes_eq, List, [], ◌∷◌, ◌++◌, length, Option, Some, None, Result, Ok, Err, if◌then◌else◌, option_and_then, codes}
use Rattle.std.specs.List.{list_any}
use Rattle.serde_json.specs.Data.{Data, string}
use Rattle.serde_json.specs.Find.{get}
use Rattle.package_items.specs.Rows.{Fault, LicenseRow, ItemRow, PackageRow}
use Rattle.package_items.specs.Members.{on_ok, text_of, text_if_any}
use Rattle.package_items.specs.Items.{list_items, list_items_if_any, object_at, if_object}
use Rattle.package_items.specs.Nested.{in_list, with_parts, all_with_parts}
use Rattle.package_items.specs.Texts.{license_of_all}
use Rattle.package_items.specs.Packages.{said, with_evidence}

-- what stands at a member of a member
abbrev pub inner : List ℕ → List ℕ → Data → Option Data
inner outer key d = option_and_then (get key) (get outer d)

-- the first text, if there is one, else the next
abbrev pub first_text : Result (Option (List ℕ)) Fault → Result (List ℕ) Fault →
    Result (List ℕ) Fault
first_text (Err f) next = Err f
first_text (Ok (Some text)) next = Ok text
first_text (Ok None) next = next

-- the id of the license of an entry, or else its name
abbrev pub id_or_name : ItemRow → Data → Result (List ℕ) Fault
id_or_name i license =
    first_text (text_if_any (i.at ++ codes "/license/id") (get (codes "id") license))
    (text_of (i.at ++ codes "/license/name") (get (codes "name") license))

abbrev pub license_text : ItemRow → Result (List ℕ) Fault
license_text i =
    on_ok (object_at (i.at ++ codes "/license") (get (codes "license") i.holds)) (id_or_name i)

-- an expression, or else what a license says
abbrev pub entry_text : ItemRow → Result (List ℕ) Fault
entry_text i =
    if_object i (first_text
    (text_if_any (i.at ++ codes "/expression") (get (codes "expression") i.holds))
    (license_text i))

abbrev pub says_concluded : Option Data → Bool
says_concluded (Some (string s)) = bytes_eq s (codes "concluded")
says_concluded found = false

-- whether an entry is what an analysis concluded: it says so itself, or its license does
abbrev pub is_concluded : ItemRow → Bool
is_concluded i =
    says_concluded (get (codes "acknowledgement") i.holds) ||
    says_concluded (inner (codes "license") (codes "acknowledgement") i.holds)

-- the texts of the entries that count: of the concluded ones alone, or of all
abbrev pub texts_in : Bool → List ItemRow → Result (List (List ℕ)) Fault
texts_in only_concluded [] = Ok []
texts_in only_concluded (i ∷ is) =
    if not only_concluded || is_concluded i
    then on_ok (entry_text i) (λ t. on_ok (texts_in only_concluded is) (λ ts. Ok (t ∷ ts)))
    else texts_in only_concluded is

-- what the entries say: the concluded ones, if there are any, or else all; those that count hold
-- together
abbrev pub license_of_entries : List ItemRow → Result LicenseRow Fault
license_of_entries is =
    on_ok (texts_in (list_any is_concluded is) is)
    (λ texts. Ok (license_of_all (codes " AND ") texts))

abbrev pub license : ItemRow → Result LicenseRow Fault
license i =
    on_ok (list_items_if_any (i.at ++ codes "/licenses") (get (codes "licenses") i.holds))
    license_of_entries

-- how many licenses were seen in the files of a component
abbrev pub evidence : ItemRow → Result ℕ Fault
evidence i =
    on_ok (list_items_if_any (i.at ++ codes "/evidence/licenses")
    (inner (codes "evidence") (codes "licenses") i.holds)) (λ seen.
    Ok (length seen))

-- a name behind its group, if there is one
abbrev pub grouped : Option (List ℕ) → List ℕ → List ℕ
grouped None name = name
grouped (Some group) name = if length group == 0 then name else group ++ (codes "/" ++ name)

abbrev pub name_of : ItemRow → Result (List ℕ) Fault
name_of i =
    on_ok (text_if_any (i.at ++ codes "/group") (get (codes "group") i.holds)) (λ group.
    on_ok (text_of (i.at ++ codes "/name") (get (codes "name") i.holds))
    (λ name. Ok (grouped group name)))

-- the package that a component or a service is
abbrev pub cyclonedx : ItemRow → Result PackageRow Fault
cyclonedx i =
    if_object i (on_ok (name_of i) (λ name.
    on_ok (text_if_any (i.at ++ codes "/version") (get (codes "version") i.holds)) (λ version.
    on_ok (license i) (λ l.
    on_ok (evidence i) (λ n. Ok (with_evidence n (said i name version l)))))))

abbrev pub is_text : List ℕ → Option Data → Bool
is_text text (Some (string s)) = bytes_eq s text
is_text text found = false

abbrev pub is_bom : Data → Bool
is_bom d = is_text (codes "CycloneDX") (get (codes "bomFormat") d)

-- the component that the document is about
unfoldable pub subject_item : Data → ItemRow
subject_item d = record { key = []; at = codes "/metadata/component"; holds = d; is_own = true }

-- the same with its parts
abbrev pub subject_parts : Data → Result (List ItemRow) Fault
subject_parts d = with_parts (in_list (codes "components")) 64 (subject_item d)

abbrev pub subject_of : Option Data → Result (List ItemRow) Fault
subject_of None = Ok []
subject_of (Some d) = subject_parts d

-- the same, if one is told
abbrev pub subject : Data → Result (List ItemRow) Fault
subject d = subject_of (inner (codes "metadata") (codes "component") d)

-- the list of components, which a document may lack if it says that it is of this form
unfoldable pub component_list : Data → Result (List ItemRow) Fault
component_list d =
    if is_bom d then list_items_if_any (codes "/components") (get (codes "components") d)
    else list_items (codes "/components") (get (codes "components") d)

abbrev pub components : Data → Result (List ItemRow) Fault
components d = on_ok (component_list d) (λ is. all_with_parts (in_list (codes "components")) 64 is)

abbrev pub services : Data → Result (List ItemRow) Fault
services d =
    on_ok (list_items_if_any (codes "/services") (get (codes "services") d))
    (λ is. all_with_parts (in_list (codes "services")) 64 is)

-- the subject, the components and the services, each with its parts behind it
abbrev pub items : Data → Result (List ItemRow) Fault
items d =
    on_ok (subject d) (λ ms.
    on_ok (components d) (λ cs. on_ok (services d) (λ ss. Ok ((ms ++ cs) ++ ss))))
