-- The texts of faults.
use Rattle.std.specs.Prelude.{ℕ, List, [], ◌++◌, if◌then◌else◌, ◌==◌, length, codes, chars, encode_utf8, flat_map, string_bytes}
use Rattle.std.specs.Fmt.{decimal}
use Rattle.foreign_text.specs.Hidden.{is_hidden}
use Rattle.foreign_text.specs.Written.{numbered}
use Rattle.package_items.specs.declared.error.Found.{Found}
use Rattle.package_items.specs.declared.error.Found.TheVariants as found
use Rattle.package_items.specs.declared.error.SourceFault.{SourceFault}
use Rattle.package_items.specs.declared.error.SourceFault.TheVariants as fault
use Rattle.package_items.specs.declared.error.SourceError.{SourceError}
use Rattle.package_items.specs.declared.error.SourceError.TheVariants as error

abbrev pub found_text : Found → List ℕ
found_text found.Nothing = codes "nothing there"
found_text found.Null = codes "null"
found_text found.Bool = codes "true or false"
found_text found.Number = codes "a number"
found_text found.Text = codes "a text"
found_text found.List = codes "a list"
found_text found.Object = codes "an object"

-- what a terminal would obey or not show stands as its number
abbrev pub shown_char : ℕ → List ℕ
shown_char c = if is_hidden c then numbered c else encode_utf8 c

-- a text of others
abbrev pub shown : List ℕ → List ℕ
shown text = flat_map shown_char (chars text)

-- a place in a document
abbrev pub place_text : List ℕ → List ℕ
place_text at = if length at == 0 then codes "the whole document" else shown at

abbrev pub needed_text : List ℕ → List ℕ → Found → List ℕ
needed_text needed at f =
    needed ++ (codes " at " ++ (place_text at ++ (codes ": " ++ found_text f)))

abbrev pub with_text : List ℕ → List ℕ → List ℕ
with_text wrong text = wrong ++ (codes " " ++ shown text)

-- what stands on a line, and in a record
abbrev pub on_line : ℕ → List ℕ → List ℕ
on_line line wrong = codes "line " ++ (decimal line ++ (codes ": " ++ wrong))

abbrev pub in_record : ℕ → List ℕ → List ℕ
in_record number wrong = codes "record " ++ (decimal number ++ (codes ": " ++ wrong))

abbrev pub no_object_text : ℕ → Found → List ℕ
no_object_text line f = on_line line (codes "not an object: " ++ found_text f)

abbrev pub no_text_text : ℕ → List ℕ → Found → List ℕ
no_text_text line at f = on_line line [] ++ needed_text (codes "not a text") at f

abbrev pub count_text : ℕ → ℕ → List ℕ
count_text number count =
    if count == 1 then in_record number (codes "one column, and not two or three")
    else in_record number (decimal count ++ codes " columns, and not two or three")

-- the line that is printed of a fault
abbrev pub fault_text : SourceFault → List ℕ
fault_text (fault.NotJson line column) =
    codes "not JSON: line " ++ (decimal line ++ (codes ", column " ++ decimal column))
fault_text (fault.NotPointer text) = with_text (codes "not a JSON pointer:") (string_bytes text)
fault_text (fault.NotList at f) = needed_text (codes "not a list") (string_bytes at) f
fault_text (fault.NotObject at f) = needed_text (codes "not an object") (string_bytes at) f
fault_text (fault.NotText at f) = needed_text (codes "not a text") (string_bytes at) f
fault_text (fault.TooDeep at) = with_text (codes "nested too deep at") (string_bytes at)
fault_text (fault.NotUtf8 line) = on_line line (codes "not UTF-8")
fault_text (fault.LineNotJson line) = on_line line (codes "not JSON")
fault_text (fault.LineNotObject line f) = no_object_text line f
fault_text (fault.LineNotText line at f) = no_text_text line (string_bytes at) f
fault_text (fault.NoField name) = with_text (codes "no line") (string_bytes name)
fault_text fault.OpenQuote = codes "a quote is not closed"
fault_text fault.NoNameColumn = codes "no column name, module name, package or component"
fault_text fault.NoLicenseColumn =
    codes "no column license, licence, licenses, license expression or spdx"
fault_text (fault.RecordNotUtf8 number) = in_record number (codes "not UTF-8")
fault_text (fault.NotColumns number count) = count_text number count
fault_text (fault.TooFewColumns number) = in_record number (codes "too few columns")
fault_text (fault.NoName number) = in_record number (codes "no name")
fault_text fault.NoForm = codes "of no form that is known"

abbrev pub error_text : SourceError → List ℕ
error_text (error.Refused f) = fault_text f
error_text error.NoMemory = codes "out of memory"
