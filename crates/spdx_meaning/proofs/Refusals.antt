-- What is said of a refusal, said of what is made of it.
use Rattle.std.proofs.Common.{◌≡◌, Result, Ok, Err, IfOk, IfErr, sym, subst}
use Rattle.spdx_requirement.specs.declared.failure.Failure.{Failure}
use Rattle.spdx_requirement.specs.declared.failure.Failure.TheVariants.{Refused, Memory}
use Rattle.spdx_requirement.specs.Failures.{IfRefused}

weaker : {E : Type 0} (P Q : E → Type 0) → ((x : E) → P x → Q x) → (e : Failure E) → IfRefused P e → IfRefused Q e
weaker P Q f (Refused x) h = f x h
weaker P Q f (Memory m) h = tt

-- a refusal that is handed on
pub handed_on : {A E : Type 0} (P Q : E → Type 0) → ((x : E) → P x → Q x) → (result : Result A (Failure E)) (e : Failure E) → result ≡ Err e → IfRefused P e → IfErr result (IfRefused Q)
handed_on P Q f result e same h = subst (λ r. IfErr r (IfRefused Q)) (sym same) (weaker P Q f e h)

pub if_ok : {A E : Type 0} (P Q : A → Type 0) → ((x : A) → P x → Q x) → (result : Result A E) → IfOk result P → IfOk result Q
if_ok P Q f (Ok x) h = f x h
if_ok P Q f (Err e) h = tt
