-- A part of what the bytes of a catalogue are read as.
use Rattle.std.specs.Prelude.{Option, Result, Ok, Err}
use Rattle.std.specs.Option.{option_map_or}
use Rattle.spdx_requirement.specs.Rows.{Rows}
use Rattle.spdx_catalogue.specs.declared.error.CatalogueError.{CatalogueError}
use Rattle.spdx_catalogue.specs.declared.error.ReadFault.{ReadFault}
use Rattle.spdx_catalogue.specs.declared.error.ReadFault.TheVariants as fault

-- the rows, unless one has a fault
abbrev pub unless_fault : Option CatalogueError → Rows → Result Rows ReadFault
unless_fault o rows = option_map_or (λ e. Err (fault.Catalogue e)) o (Ok rows)
