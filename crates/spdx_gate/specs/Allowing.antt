-- What is allowed under some exceptions.
use Rattle.std.specs.Prelude.{ℕ, Bool, List}
use Rattle.spdx_requirement.specs.Items.{Requirement}
use Rattle.spdx_policy.specs.declared.decision.Decision.{Decision}
use Rattle.spdx_policy.specs.declared.decision.Decision.TheVariants as decision
use Rattle.spdx_policy.specs.Decisions.{decision_of}
use Rattle.spdx_policy.specs.Rules.{Rules}
use Rattle.spdx_why.specs.declared.marks.Mark.{Mark}
use Rattle.spdx_why.specs.declared.marks.Mark.TheVariants as mark
use Rattle.spdx_why.specs.Marks.{allows}

-- the mark of a decision
abbrev pub mark_of : Decision → Mark
mark_of (decision.Allowed e) = mark.Allowed
mark_of (decision.Denied e) = mark.Denied
mark_of decision.Open = mark.Open

-- whether a requirement is allowed under some exceptions
abbrev pub allowed_in : Rules → List ℕ → Requirement → Bool
allowed_in p tables r = allows (mark_of (decision_of p tables r))
