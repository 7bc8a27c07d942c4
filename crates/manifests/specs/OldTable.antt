-- A license in a table, as a pyproject.toml had it before PEP 639.
use Rattle.std.specs.Prelude.{Bool, true, false, codes}
use Rattle.std.specs.Option.{option_map_or}
use Rattle.toml.specs.Data.{Data, table, Members, get, get_member}

abbrev pub is_table : Data → Bool
is_table (table _) = true
is_table d = false

-- the value has a table at `license`
abbrev pub has_table_at : Data → Bool
has_table_at d = option_map_or is_table (get (codes "license") d) false

-- the document's `project` has
abbrev pub has_license_table : Members → Bool
has_license_table document =
    option_map_or has_table_at (get_member (codes "project") document) false
