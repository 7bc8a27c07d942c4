-- What the rows of the files show, as bytes and numbers.
use Rattle.std.specs.Prelude.{string_bytes, map}
use Rattle.spdx_requirement.specs.Rows.{imprecise_of}
use Rattle.spdx_list.specs.declared.tables.item.Entry.{Entry}
use Rattle.spdx_list.specs.declared.tables.Stated.{Stated}
use Rattle.spdx_list.specs.declared.extras.Replacement.{Replacement}
use Rattle.spdx_list.specs.declared.extras.Extras.{Extras}
use Rattle.spdx_list.specs.Files.{EntryRow, StatedRows, ReplacementRow, ExtraRows}

-- an entry as bytes and flags
abbrev pub entry_of : Entry → EntryRow
entry_of e =
    record {
      name = string_bytes e.name;
      full_name = string_bytes e.full_name;
      fsf_libre = e.fsf_libre;
      osi_approved = e.osi_approved;
      deprecated = e.deprecated;
    }

-- the same of all that the licences state
abbrev pub shown_stated : Stated → StatedRows
shown_stated s = record { version = string_bytes s.version; entries = map entry_of s.entries.items }

-- what is written in place of a name, as bytes
abbrev pub shown_replacement : Replacement → ReplacementRow
shown_replacement r = record { name = string_bytes r.name; write = string_bytes r.write }

-- the extras as bytes
abbrev pub shown_extras : Extras → ExtraRows
shown_extras x =
    record {
      copyleft = map string_bytes x.copyleft.items;
      imprecise = map imprecise_of x.imprecise.items;
      instead = map shown_replacement x.instead.items;
    }
