-- What a catalogue's bytes are read as.
use Rattle.std.specs.Prelude.{ℕ, List, Result, Ok, Err}
use Rattle.std.specs.Option.{option_map_or}
use Rattle.spdx_requirement.specs.Rows.{Rows}
use Rattle.spdx_tables.specs.TableReading.{tables_in}
use Rattle.spdx_tables.specs.declared.error.TableFault.{TableFault}
use Rattle.spdx_tables.specs.declared.error.TableFault.TheVariants as table
use Rattle.spdx_catalogue.specs.RowRules.{first_fault}
use Rattle.spdx_catalogue.specs.declared.error.ReadFault.{ReadFault}
use Rattle.spdx_catalogue.specs.declared.error.ReadFault.TheVariants as fault

-- bytes that hold no tables hold no catalogue
abbrev pub read_fault : TableFault → ReadFault
read_fault table.NotJson = fault.NotJson
read_fault table.Float = fault.Float
read_fault (table.Shape field) = fault.Shape field

-- nor do tables of which a row breaks a rule
abbrev pub checked : Result Rows TableFault → Result Rows ReadFault
checked (Err table_fault) = Err (read_fault table_fault)
checked (Ok rows) = option_map_or (λ e. Err (fault.Catalogue e)) (first_fault rows) (Ok rows)

-- the rows of the catalogue that the bytes hold, or the first fault that applies
unfoldable pub catalogue_in : List ℕ → Result Rows ReadFault
catalogue_in bytes = checked (tables_in bytes)
