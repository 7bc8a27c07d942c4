-- What a mark says.
use Rattle.std.specs.Prelude.{Bool, true, false, List, map}
use Rattle.spdx_why.specs.declared.marks.Mark.{Mark}
use Rattle.spdx_why.specs.declared.marks.Mark.TheVariants.{Allowed, Denied, Open}

abbrev pub allows : Mark → Bool
allows Allowed = true
allows Denied = false
allows Open = false

abbrev pub leaves_open : Mark → Bool
leaves_open Allowed = false
leaves_open Denied = false
leaves_open Open = true

-- nothing is accepted
abbrev pub none_of : List Mark → List Bool
none_of ms = map (λ m. false) ms
