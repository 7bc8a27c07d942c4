-- What the errors of the least choice say.
use Rattle.std.specs.Prelude.{ℕ, List, ◌++◌, codes}
use Rattle.std.specs.Fmt.{decimal}
use Rattle.spdx_minimize.specs.declared.minimize_error.MinimizeError.{MinimizeError}
use Rattle.spdx_minimize.specs.declared.minimize_error.MinimizeError.TheVariants.{TooManyRequirements, RequirementsUnmet}

abbrev pub minimize_text : MinimizeError → List ℕ
minimize_text (TooManyRequirements n) =
    codes "the license expression required " ++
    (decimal n ++ codes " licensees which exceeds the limit of 1024")
minimize_text RequirementsUnmet =
    codes "the expression was not satisfied by the provided list of licensees"

abbrev pub minimize_description : MinimizeError → List ℕ
minimize_description (TooManyRequirements n) = codes "too many requirements in license expression"
minimize_description RequirementsUnmet =
    codes "the expression was not satisfied by the provided list of licensees"
