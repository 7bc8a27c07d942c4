-- The printed names of a catalogue's keys.
use Rattle.std.specs.Prelude.{ℕ, List, codes}
use Rattle.spdx_tables.specs.declared.error.Field.{Field}
use Rattle.spdx_tables.specs.declared.error.Field.TheVariants as key

-- a field is named by its key
abbrev pub field_text : Field → List ℕ
field_text key.Version = codes "version"
field_text key.Licenses = codes "licenses"
field_text key.Exceptions = codes "exceptions"
field_text key.Imprecise = codes "imprecise"
