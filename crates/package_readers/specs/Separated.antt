-- Records of values, with commas or tabs between them.
use Rattle.std.specs.Prelude.{ℕ, Bool, true, false, ◌||◌, ◌==◌, if◌then◌else◌, List, [], ◌∷◌}
use Rattle.csv.specs.Reading.{default_config, records, strip_bom}
use Rattle.csv.specs.declared.parser.Config.{Config}
use Rattle.package_readers.specs.declared.separated.Separator.{Separator}
use Rattle.package_readers.specs.declared.separated.Separator.TheVariants as separator
use Rattle.package_readers.specs.declared.separated.Place.{Place}
use Rattle.package_readers.specs.declared.separated.Place.TheVariants as place

abbrev pub separator_byte : Separator → ℕ
separator_byte separator.Comma = 44
separator_byte separator.Tab = 9

-- ---- quotes

-- the byte ends a value that no quotes keep together
abbrev pub is_end : Separator → ℕ → Bool
is_end s b = (b == separator_byte s) || ((b == 13) || (b == 10))

-- the place behind a quote or another byte, where one may open
abbrev pub opened : ℕ → Place
opened b = if b == 34 then place.Quoted else place.Plain

-- the place behind one more byte
abbrev pub behind : Separator → Place → ℕ → Place
behind s place.Start b = if is_end s b then place.Start else opened b
behind s place.Plain b = if is_end s b then place.Start else place.Plain
behind s place.Quoted b = if b == 34 then place.Closed else place.Quoted
behind s place.Closed b = if is_end s b then place.Start else opened b

abbrev pub is_quoted : Place → Bool
is_quoted place.Start = false
is_quoted place.Plain = false
is_quoted place.Quoted = true
is_quoted place.Closed = false

abbrev pub is_open_behind : Separator → Place → List ℕ → Bool
is_open_behind s p [] = is_quoted p
is_open_behind s p (b ∷ bs) = is_open_behind s (behind s p b) bs

-- whether a value in quotes goes on to the end of the bytes
abbrev pub is_open : Separator → List ℕ → Bool
is_open s bytes = is_open_behind s place.Start bytes

-- ---- records

-- how values are read: as `csv` does, but for the separator
abbrev pub config_of : Separator → Config
config_of s = record default_config { delimiter = separator_byte s }

-- every record of the bytes, each as its values
abbrev pub records_of : Separator → List ℕ → List (List (List ℕ))
records_of s bytes = records (config_of s) (strip_bom bytes)
