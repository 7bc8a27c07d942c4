-- What verdicts say.
use Rattle.std.specs.Prelude.{Bool, true, false}
use Rattle.spdx_gate.specs.declared.package.Verdict.{Verdict}
use Rattle.spdx_gate.specs.declared.package.Verdict.TheVariants.{Allowed, ByException, Unstated, Unreadable, Refused}

abbrev pub passes : Verdict → Bool
passes Allowed = true
passes ByException = true
passes (Unstated b) = b
passes Unreadable = false
passes Refused = false

-- of an expression that passes or not, under the package's exceptions and under none
abbrev pub verdict_by : Bool → Bool → Verdict
verdict_by false without = Refused
verdict_by true false = ByException
verdict_by true true = Allowed
