-- A part of what the choice is.
use Rattle.std.specs.Prelude.{Bool, List, Option}
use Rattle.std.specs.Option.{option_map_or}
use Rattle.spdx_requirement.specs.Items.{Requirement}
use Rattle.spdx_minimize.specs.Choice.{Choice, chosen, unmet, chosen_of}

-- the choice that a selection makes, if there is one
abbrev pub choice_by : List Requirement → Option (List Bool) → Choice
choice_by members o = option_map_or (λ selection. chosen (chosen_of members selection)) o unmet
