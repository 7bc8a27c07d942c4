-- A part of what it is to have an ending.
use Rattle.std.specs.Prelude.{ℕ, Bool, List, nat_eq}
use Rattle.std.specs.List.{ends_with}
use Rattle.spdx_requirement.specs.Endings.{only}

-- the name ends in `-only`
abbrev pub ends_only : List ℕ → Bool
ends_only name = ends_with nat_eq name only
