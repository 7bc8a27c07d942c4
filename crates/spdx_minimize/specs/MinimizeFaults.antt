-- What a refusal of the minimiser says of the choice.
use Rattle.spdx_minimize.specs.declared.minimize_error.MinimizeError.{MinimizeError}
use Rattle.spdx_minimize.specs.declared.minimize_error.MinimizeError.TheVariants.{TooManyRequirements, RequirementsUnmet}
use Rattle.spdx_minimize.specs.Choice.{Choice, too_many, unmet}

-- the choice that a refusal speaks of
abbrev pub refused_choice : MinimizeError → Choice
refused_choice (TooManyRequirements n) = too_many n
refused_choice RequirementsUnmet = unmet
