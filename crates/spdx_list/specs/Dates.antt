-- When SPDX released a list.
use Rattle.std.specs.Prelude.{ℕ, List, Option, codes, nat_eq, option_and_then, option_map}
use Rattle.std.specs.List.{before_first}
use Rattle.spdx_tables.specs.Shape.{text_at}
use Rattle.spdx_tables.specs.TableReading.{value_in}

-- what stands before the time of day, which begins with a T
abbrev pub day_of : List ℕ → List ℕ
day_of moment = before_first (λ b. nat_eq b 84) moment

-- the day of the file's `releaseDate`, if it has one
abbrev pub released_in : List ℕ → Option (List ℕ)
released_in licenses =
    option_map day_of (option_and_then (text_at (codes "releaseDate")) (value_in licenses))
