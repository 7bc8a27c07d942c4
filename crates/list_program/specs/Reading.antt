-- Which catalogue lines are.
use Rattle.std.specs.Prelude.{◌≡◌, ℕ, List, None, Some, map, string_bytes}
use Rattle.spdx_requirement.specs.Rows.{Rows, row_of, exception_of, imprecise_of}
use Rattle.spdx_catalogue.specs.RowRules.{first_fault}
use Rattle.list_program.specs.Lines.{list_in}
use Rattle.list_program.specs.declared.read.Tables.{Tables}
use Rattle.list_program.specs.declared.read.LinesFault.{LinesFault}
use Rattle.list_program.specs.declared.read.LinesFault.TheVariants as fault

abbrev pub tables_shown : Tables → Rows
tables_shown t = record {
  version = string_bytes t.version;
  licenses = map row_of t.licenses.items;
  exceptions = map exception_of t.exceptions.items;
  imprecise = map imprecise_of t.imprecise.items;
}

-- its lines are these rows, which break no rule of a catalogue
abbrev pub IsListOf : List ℕ → Rows → Type 0
IsListOf text c = (list_in text ≡ Some c) × (first_fault c ≡ None)

-- why it is none
abbrev pub IsNoListOf : List ℕ → LinesFault → Type 0
IsNoListOf text fault.NotLines = list_in text ≡ None
IsNoListOf text (fault.Catalogue f) =
    (c : Rows) × (list_in text ≡ Some c) × (first_fault c ≡ Some f)
