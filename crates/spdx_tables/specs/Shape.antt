-- Which tables a JSON value holds.
use Rattle.std.specs.Prelude.{ℕ, suc, List, [], ◌∷◌, Option, Some, None, Result, Ok, Err, option_map, option_and_then, nat_le, if◌then◌else◌, codes}
use Rattle.serde_json.specs.Data.{Data, Items, no_items, item}
use Rattle.serde_json.specs.Find.{get, as_str, as_array, as_number, as_u64}
use Rattle.spdx_requirement.specs.Rows.{Rows, LicenseRow, ExceptionRow, ImpreciseRow}
use Rattle.spdx_tables.specs.declared.error.Field.{Field}
use Rattle.spdx_tables.specs.declared.error.Field.TheVariants.{Version, Licenses, Exceptions, Imprecise}

-- the text at a key
abbrev pub text_at : List ℕ → Data → Option (List ℕ)
text_at key d = option_and_then as_str (get key d)

-- the whole number to 255 at a key
abbrev pub byte_at : List ℕ → Data → Option ℕ
byte_at key d =
    option_and_then (λ n. if nat_le n 255 then Some n else None)
    (option_and_then as_u64 (option_and_then as_number (get key d)))

-- the array at a key
abbrev pub items_at : List ℕ → Data → Option Items
items_at key d = option_and_then as_array (get key d)

-- a row's index is its position
abbrev pub license_row : ℕ → Data → Option LicenseRow
license_row index d =
    option_and_then (λ name.
    option_and_then (λ full_name.
    option_map (λ flags.
    record { name = name; full_name = full_name; index = index; flags = flags })
    (byte_at (codes "flags") d)) (text_at (codes "full_name") d)) (text_at (codes "name") d)

abbrev pub exception_row : ℕ → Data → Option ExceptionRow
exception_row index d =
    option_and_then (λ name.
    option_map (λ flags. record { name = name; index = index; flags = flags })
    (byte_at (codes "flags") d)) (text_at (codes "name") d)

abbrev pub imprecise_row : ℕ → Data → Option ImpreciseRow
imprecise_row index d =
    option_and_then (λ prefix.
    option_map (λ name. record { prefix = prefix; name = name }) (text_at (codes "name") d))
    (text_at (codes "prefix") d)

-- the rows of a table, from the given index on, if each item is one
abbrev pub rows_from : {A : Type 0} → (ℕ → Data → Option A) → ℕ → Items → Option (List A)
rows_from row index no_items = Some []
rows_from row index (item d ds) =
    option_and_then (λ r. option_map (λ rs. r ∷ rs) (rows_from row (suc index) ds)) (row index d)

-- the rows of the array at a key
abbrev pub rows_at : {A : Type 0} → (ℕ → Data → Option A) → List ℕ → Data → Option (List A)
rows_at read key d = option_and_then (rows_from read 0) (items_at key d)

-- what is missing at a field is its fault
abbrev pub need : {A B : Type 0} → Field → Option A → (A → Result B Field) → Result B Field
need field None go = Err field
need field (Some x) go = go x

-- the tables, or the first field that is missing or not of its shape
abbrev pub tables : Data → Result Rows Field
tables d =
    need Version (text_at (codes "version") d) (λ version.
    need Licenses (rows_at license_row (codes "licenses") d) (λ licenses.
    need Exceptions (rows_at exception_row (codes "exceptions") d) (λ exceptions.
    need Imprecise (rows_at imprecise_row (codes "imprecise") d) (λ imprecise.
    Ok (record {
      version = version;
      licenses = licenses;
      exceptions = exceptions;
      imprecise = imprecise;
    })))))
