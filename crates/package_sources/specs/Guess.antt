-- Which form a file is of, by its shape.
use Rattle.std.specs.Prelude.{nat_eq, ℕ, Bool, true, false, not, ◌&&◌, ◌||◌, bytes_eq, ◌==◌, List, Option, Some, None, Result, Ok, Err, if◌then◌else◌, codes, nat_lt, length, take, drop}
use Rattle.std.specs.Str.{str_eq_ignore_ascii_case}
use Rattle.std.specs.List.{starts_with, find, list_any, prefix_len}
use Rattle.std.specs.Option.{is_some}
use Rattle.std.specs.Char.{is_ascii_whitespace}
use Rattle.serde_json.specs.Data.{Data, string, array, object, item, Members, no_members, member}
use Rattle.serde_json.specs.Find.{get}
use Rattle.package_readers.specs.LicenseChecker.{version_of}
use Rattle.package_sources.specs.declared.form.Form.{Form}
use Rattle.package_sources.specs.declared.form.Form.TheVariants as form
use Rattle.package_items.specs.Rows.{Fault, no_form}
use Rattle.package_items.specs.Members.{on_ok}
use Rattle.package_sources.specs.Sources.{document, without_mark}

abbrev pub has : List ℕ → Data → Bool
has key d = is_some (get key d)

abbrev pub is_list : Data → Bool
is_list (array ds) = true
is_list d = false

-- whether some member of an object is so
abbrev pub some_member : (List ℕ → Data → Bool) → Members → Bool
some_member is_so no_members = false
some_member is_so (member key d ms) = is_so key d || some_member is_so ms

-- license-checker: a version in the name of a member that has licenses
abbrev pub is_checked : List ℕ → Data → Bool
is_checked key d = is_some (version_of key) && has (codes "licenses") d

abbrev pub is_text : List ℕ → Option Data → Bool
is_text text (Some (string s)) = bytes_eq s text
is_text text found = false

-- pnpm: a list whose first item has the license that the list is named by
abbrev pub is_group : List ℕ → Data → Bool
is_group key (array (item d ds)) = is_text key (get (codes "license") d)
is_group key d = false

abbrev pub is_context : Option Data → Bool
is_context (Some (string s)) = starts_with nat_eq s (codes "https://spdx.org/rdf/3")
is_context found = false

-- SPDX 3: a graph of elements, or one element of its context
abbrev pub is_graph : Data → Bool
is_graph d = has (codes "@graph") d || is_context (get (codes "@context") d)

-- the form that is told by members, whatever their names
abbrev pub form_of_members : Data → Option Form
form_of_members (object ms) =
    if some_member is_checked ms then Some form.LicenseChecker else if some_member is_group ms
    then Some form.Pnpm else None
form_of_members d = None

-- what a document has tells its form
abbrev pub form_of_document : Data → Option Form
form_of_document d =
    if is_list d then Some form.Pip
    else if has (codes "bomFormat") d then Some form.CycloneDx
    else if has (codes "spdxVersion") d || has (codes "sbom") d then Some form.Spdx
    else if is_graph d then Some form.SpdxThree
    else if has (codes "workspace_members") d then Some form.Cargo
    else if has (codes "content-hash") d || has (codes "require") d then Some form.Composer
    else if has (codes "lockfileVersion") d ||
    (has (codes "name") d || has (codes "dependencies") d) then Some form.Npm
    else form_of_members d

abbrev pub form_or_fault : Option Form → Result Form Fault
form_or_fault None = Err no_form
form_or_fault (Some f) = Ok f

-- what is no white space
abbrev pub is_mark : ℕ → Bool
is_mark b = not (is_ascii_whitespace b)

abbrev pub opens_json : Option ℕ → Bool
opens_json None = false
opens_json (Some b) = (b == 123) || (b == 91)

-- whether the bytes begin as an object or a list does
abbrev pub begins_json : List ℕ → Bool
begins_json bytes = opens_json (find is_mark bytes)

-- whether the bytes begin with the field that the metadata of Python begin with, in any case
abbrev pub begins_metadata : List ℕ → Bool
begins_metadata bytes =
    not (nat_lt (length bytes) 17) &&
    str_eq_ignore_ascii_case (take 17 bytes) (codes "Metadata-Version:")

-- whether the bytes begin, behind white space, as the gate's lines do: with the file of a package
abbrev pub begins_verdicts : List ℕ → Bool
begins_verdicts bytes =
    starts_with nat_eq (drop (prefix_len is_ascii_whitespace bytes) bytes) (codes "{\"file\":")

-- verdicts by what they begin with, other JSON by what it has; other bytes are lines, with columns
-- if there is a tab
abbrev pub guess : List ℕ → Result Form Fault
guess bytes =
    if begins_verdicts bytes then Ok form.Verdicts
    else if begins_json bytes then on_ok (document bytes) (λ d. form_or_fault (form_of_document d))
    else if begins_metadata bytes then Ok form.Metadata
    else if list_any (λ b. b == 9) bytes then Ok (form.Tsv false) else Ok form.Lines

-- the form that a file is of
abbrev pub guessed_form : List ℕ → Result Form Fault
guessed_form bytes = guess (without_mark bytes)
