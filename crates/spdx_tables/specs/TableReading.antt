-- Which tables bytes hold.
use Rattle.std.specs.Prelude.{ℕ, List, Option, Some, None, Result, Err, codes, map, option_and_then, string_bytes, if◌then◌else◌}
use Rattle.std.specs.Result.{result_map_both}
use Rattle.std.specs.Str.{is_utf8}
use Rattle.serde_json.specs.Data.{Data}
use Rattle.serde_json.specs.Read.{read}
use Rattle.serde_json.specs.Written.{has_float}
use Rattle.spdx_requirement.specs.Rows.{Rows, row_of, exception_of, imprecise_of}
use Rattle.spdx_tables.specs.Shape.{tables, text_at}
use Rattle.spdx_tables.specs.declared.error.TableFault.{TableFault}
use Rattle.spdx_tables.specs.declared.error.TableFault.TheVariants as fault
use Rattle.spdx_tables.specs.declared.tables.Tables.{Tables}

-- the rows of tables as bytes and numbers
abbrev pub rows_of : Tables → Rows
rows_of t =
    record {
      version = string_bytes t.version;
      licenses = map row_of t.licenses.items;
      exceptions =
          map exception_of t.exceptions.items;
      imprecise = map imprecise_of t.imprecise.items;
    }

-- the value of the bytes, if they are text and one JSON value
abbrev pub value_in : List ℕ → Option Data
value_in bytes = if is_utf8 bytes then read bytes else None

-- the date of the tables' version, if the bytes are a value that has it
abbrev pub date_in : List ℕ → Option (List ℕ)
date_in bytes = option_and_then (text_at (codes "version_date")) (value_in bytes)

-- the tables of a value, in which no number is a float; a field that is missing or not of its shape
-- is the fault
abbrev pub tables_of : Option Data → Result Rows TableFault
tables_of None = Err fault.NotJson
tables_of (Some d) =
    if has_float d then Err fault.Float else result_map_both (λ rows. rows) fault.Shape (tables d)

-- the tables that the bytes hold, or the first fault that applies
abbrev pub tables_in : List ℕ → Result Rows TableFault
tables_in bytes = tables_of (value_in bytes)
