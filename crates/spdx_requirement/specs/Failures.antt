-- What a call that gave nothing says.
use Rattle.spdx_requirement.specs.declared.failure.Failure.{Failure}
use Rattle.spdx_requirement.specs.declared.failure.Failure.TheVariants.{Refused, Memory}

-- P of a refusal, and M at want of memory
abbrev pub RefusedOr : {E : Type 0} → Type 0 → (E → Type 0) → Failure E → Type 0
RefusedOr M P (Refused e) = P e
RefusedOr M P (Memory e) = M

-- P of a refusal; of want of memory nothing
abbrev pub IfRefused : {E : Type 0} → (E → Type 0) → Failure E → Type 0
IfRefused P (Refused e) = P e
IfRefused P (Memory e) = Unit {0}
