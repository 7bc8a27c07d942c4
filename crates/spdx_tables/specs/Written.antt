-- The JSON value of tables, and its tokens. The members of an object stand in the order of their
-- keys.
use Rattle.std.specs.Prelude.{◌≡◌, ℕ, Bool, true, List, [], ◌∷◌, Option, Some, None, nat_le, map, codes}
use Rattle.std.specs.List.{list_all}
use Rattle.serde_json.specs.Data.{Data, Members, unsigned, number, string, array, object, no_members, member}
use Rattle.serde_json.specs.View.{items_of}
use Rattle.serde_json.specs.Written.{outline}
use Rattle.json.specs.Token.{Token, end_object, key, string as string_token}
use Rattle.json.specs.Tree.{json_tokens}
use Rattle.spdx_requirement.specs.Rows.{Rows, LicenseRow, ExceptionRow, ImpreciseRow}

-- a licence as an object
abbrev pub license_data : LicenseRow → Data
license_data r =
    object (member (codes "flags") (number (unsigned r.flags))
    (member (codes "full_name") (string r.full_name)
    (member (codes "name") (string r.name) no_members)))

-- an exception as an object
abbrev pub exception_data : ExceptionRow → Data
exception_data r =
    object (member (codes "flags") (number (unsigned r.flags))
    (member (codes "name") (string r.name) no_members))

-- an imprecise name as an object
abbrev pub imprecise_data : ImpreciseRow → Data
imprecise_data r =
    object (member (codes "name") (string r.name)
    (member (codes "prefix") (string r.prefix) no_members))

-- rows as an array
abbrev pub rows_data : {A : Type 0} → (A → Data) → List A → Data
rows_data row_data rows = array (items_of (map row_data rows))

-- the date of the version, where it is known
abbrev pub date_member : Option (List ℕ) → Members
date_member None = no_members
date_member (Some date) = member (codes "version_date") (string date) no_members

-- tables as an object, with the date of their version
abbrev pub tables_data : Rows → Option (List ℕ) → Data
tables_data c date =
    object (member (codes "exceptions") (rows_data exception_data c.exceptions)
    (member (codes "imprecise") (rows_data imprecise_data c.imprecise)
    (member (codes "licenses") (rows_data license_data c.licenses)
    (member (codes "version") (string c.version) (date_member date)))))

-- the flags are read back, since they are a byte
abbrev pub license_fits : LicenseRow → Bool
license_fits r = nat_le r.flags 255

abbrev pub exception_fits : ExceptionRow → Bool
exception_fits r = nat_le r.flags 255

abbrev pub imprecise_fits : ImpreciseRow → Bool
imprecise_fits r = true

-- the flags of each row are a byte
pub record Fit (c : Rows) : Type 0 where
  pub licenses : list_all license_fits c.licenses ≡ true
  pub exceptions : list_all exception_fits c.exceptions ≡ true

-- the tokens of a value as it is written
abbrev pub data_tokens : Data → List Token
data_tokens d = json_tokens (outline d)

-- the tokens of the date, and of the brace behind it
abbrev pub last_tokens : Option (List ℕ) → List Token
last_tokens None = end_object ∷ []
last_tokens (Some date) = key (codes "version_date") ∷ string_token date ∷ end_object ∷ []
