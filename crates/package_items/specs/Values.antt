-- What bytes hold, and what stands in it.
use Rattle.std.specs.Prelude.{ℕ, List, Option, Some, None, if◌then◌else◌, option_map}
use Rattle.std.specs.Borrow.{Bor}
use Rattle.std.specs.Str.{is_utf8}
use Rattle.serde_json.specs.Data.{Data, null, boolean, number, string, array, object}
use Rattle.serde_json.specs.Read.{read}
use Rattle.serde_json.specs.View.{view}
use Rattle.serde_json.specs.declared.value.Value.{Value}
use Rattle.package_items.specs.declared.error.Found.{Found}
use Rattle.package_items.specs.declared.error.Found.TheVariants as found

-- the value of the bytes, if they are text and one JSON value
abbrev pub value_in : List ℕ → Option Data
value_in bytes = if is_utf8 bytes then read bytes else None

-- the kind of what is found
abbrev pub found_of : Option Data → Found
found_of None = found.Nothing
found_of (Some null) = found.Null
found_of (Some (boolean b)) = found.Bool
found_of (Some (number n)) = found.Number
found_of (Some (string s)) = found.Text
found_of (Some (array ds)) = found.List
found_of (Some (object ms)) = found.Object

-- what a value stands for, if there is one
abbrev pub seen : Option (Bor Value) → Option Data
seen found = option_map (λ v. view v.now) found
