-- What the licensees of a run show.
use Rattle.std.specs.Prelude.{List}
use Rattle.spdx_requirement.specs.Items.{Requirement}
use Rattle.spdx_minimize.specs.declared.accepted.AcceptedLicensees.{AcceptedLicensees}

-- what they hold
abbrev pub licensees_of : AcceptedLicensees → List Requirement
licensees_of accepted = accepted.licensees.now
