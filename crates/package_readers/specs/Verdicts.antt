-- What `spdx gate --format json` writes: an object on each line.
use Rattle.std.specs.Prelude.{ℕ, List, Option, Some, None, Result, Ok, Err, codes}
use Rattle.serde_json.specs.Data.{Data, null, string, object}
use Rattle.serde_json.specs.Find.{get}
use Rattle.package_items.specs.Rows.{Fault, line_not_json, line_not_object, line_not_text, PackageRow}
use Rattle.package_items.specs.Values.{value_in, found_of}
use Rattle.package_items.specs.Members.{on_ok, license_if_any}
use Rattle.package_readers.specs.Lines.{in_lines, on_line_of}

abbrev pub value_or_fault : ℕ → Option Data → Result Data Fault
value_or_fault number None = Err (line_not_json number)
value_or_fault number (Some d) = Ok d

-- the one value on a line
unfoldable pub value_on : ℕ → List ℕ → Result Data Fault
value_on number line = value_or_fault number (value_in line)

abbrev pub object_on : ℕ → Data → Result Data Fault
object_on number (object ms) = Ok (object ms)
object_on number d = Err (line_not_object number (found_of (Some d)))

-- the text that stands at a pointer on a line
abbrev pub text_on : ℕ → List ℕ → Option Data → Result (List ℕ) Fault
text_on number at (Some (string s)) = Ok s
text_on number at found = Err (line_not_text number at (found_of found))

-- the text that stands there; null is as nothing
abbrev pub text_on_if_any : ℕ → List ℕ → Option Data → Result (Option (List ℕ)) Fault
text_on_if_any number at None = Ok None
text_on_if_any number at (Some null) = Ok None
text_on_if_any number at (Some (string s)) = Ok (Some s)
text_on_if_any number at found = Err (line_not_text number at (found_of found))

-- the package of what the members of an object say; its expression is its license
abbrev pub said_on : ℕ → Data → Result PackageRow Fault
said_on number d =
    on_ok (text_on number (codes "/name") (get (codes "name") d)) (λ name.
    on_ok (text_on_if_any number (codes "/version") (get (codes "version") d)) (λ version.
    on_ok (text_on_if_any number (codes "/expression") (get (codes "expression") d)) (λ text.
    Ok (on_line_of number name version (license_if_any text)))))

-- the package of a line
abbrev pub verdict : ℕ → List ℕ → Result PackageRow Fault
verdict number line =
    on_ok (value_on number line) (λ d. on_ok (object_on number d) (said_on number))

-- the packages of the lines that aren't blank
abbrev pub verdict_packages : List ℕ → Result (List PackageRow) Fault
verdict_packages bytes = in_lines verdict bytes
