-- The printed texts of faults.
use Rattle.std.specs.Prelude.{ℕ, List, [], ◌++◌, Option, Some, None, codes, string_bytes}
use Rattle.std.specs.Fmt.{decimal}
use Rattle.spdx_lexer.specs.Faults.{fault_of, fault_text}
use Rattle.spdx_policy.specs.declared.error.Section.{Section}
use Rattle.spdx_policy.specs.declared.error.Section.TheVariants as section
use Rattle.spdx_policy.specs.declared.error.Place.{Place}
use Rattle.spdx_policy.specs.declared.error.Kind.{Kind}
use Rattle.spdx_policy.specs.declared.error.Kind.TheVariants as kind
use Rattle.spdx_policy.specs.declared.fault.Unreadable.{Unreadable}
use Rattle.spdx_policy.specs.declared.fault.PolicyFault.{PolicyFault}
use Rattle.spdx_policy.specs.declared.fault.PolicyFault.TheVariants as fault
use Rattle.spdx_policy.specs.Shape.{Shape, unknown_key, missing, wrong_kind, unknown_word, shape_of, key_word}
use Rattle.spdx_policy.specs.Escaped.{shown, quoted}

-- before a key stands nothing, or its table's name, number and a dot
abbrev pub path_text : Section → List ℕ
path_text section.Policy = []
path_text (section.Exception i) = codes "exception[" ++ (decimal i ++ codes "].")
path_text (section.Clarify i) = codes "clarify[" ++ (decimal i ++ codes "].")

-- behind a key stands the item, if one is meant
abbrev pub item_text : Option ℕ → List ℕ
item_text None = []
item_text (Some i) = codes "[" ++ (decimal i ++ codes "]")

abbrev pub place_text : Place → List ℕ
place_text p = path_text p.section ++ (key_word p.key ++ item_text p.item)

abbrev pub kind_text : Kind → List ℕ
kind_text kind.Text = codes "a text"
kind_text kind.Texts = codes "a list of texts"
kind_text kind.Table = codes "a table"
kind_text kind.Tables = codes "a list of tables"

abbrev pub shape_text : Shape → List ℕ
shape_text (unknown_key s k) = path_text s ++ (shown k ++ codes ": no such key")
shape_text (missing p) = place_text p ++ codes ": missing"
shape_text (wrong_kind p k) = place_text p ++ (codes ": not " ++ kind_text k)
shape_text (unknown_word p word) = place_text p ++ (codes ": unknown word " ++ quoted word)

-- the line and the character, and the words of the reader of TOML
abbrev pub unreadable_text : Unreadable → List ℕ
unreadable_text u =
    codes "line " ++ (decimal u.line ++
    (codes ", column " ++ (decimal u.column ++ (codes ": " ++ string_bytes u.words))))

-- what is printed of a fault; `words` are those of the reader of ranges
abbrev pub policy_fault_text : PolicyFault → List ℕ
policy_fault_text (fault.Unreadable u) = unreadable_text u
policy_fault_text (fault.Shape s) = shape_text (shape_of s)
policy_fault_text (fault.UnknownFlag p) =
    place_text p ++ codes
    ": the list of licenses says nothing of copyleft: take one made with --extras"
policy_fault_text (fault.NotALicensee p text span reason) =
    place_text p
    ++ (codes ": " ++ (quoted (string_bytes text) ++
    (codes " names no licensee: " ++ fault_text (fault_of reason))))
policy_fault_text (fault.NotARange s text e words) =
    path_text s
    ++ (codes "versions: " ++
    (quoted (string_bytes text) ++ (codes " is no range: " ++ string_bytes words)))
