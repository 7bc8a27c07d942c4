-- What each expression stands under, where there is one choice for all.
use Rattle.std.proofs.Common.{◌≡◌, ℕ, zero, suc, List, [], ◌∷◌, Some, Ok, Err, map, sym, ◌∙◌, ap, subst}
use Rattle.std.specs.Prelude.{Result, IfOk, IfErr, slice_get}
use Rattle.std.specs.Global.{Vec}
use Rattle.spdx_requirement.specs.declared.failure.Failure.{Failure}
use Rattle.spdx_requirement.specs.declared.failure.Failure.TheVariants.{Refused, Memory}
use Rattle.spdx_requirement.specs.declared.requirement.LicenseReq.{LicenseReq}
use Rattle.spdx_requirement.specs.Failures.{IfRefused}
use Rattle.spdx_requirement.specs.Items.{Requirement}
use Rattle.spdx_parser.specs.Tree.{Tree}
use Rattle.spdx_minimize.specs.declared.minimize_error.MinimizeError.{MinimizeError}
use Rattle.spdx_minimize.specs.declared.minimize_error.MinimizeError.TheVariants.{TooManyRequirements, RequirementsUnmet}
use Rattle.spdx_minimize.specs.Choice.{Choice, chosen, too_many, unmet, choice_of}
use Rattle.spdx_minimize.specs.MinimizeFaults.{refused_choice}
use Rattle.package_choices.specs.declared.accepted.unmet.Unmet.{Unmet}
use Rattle.package_choices.specs.declared.accepted.unmet.Unmet.TheVariants.{Expression, Together}
use Rattle.package_choices.specs.Accepted.{own_choice, held, those_in, IsJoint}
use Rattle.package_choices.specs.Refusals.{AreChosen, IsFirstRefused, TellsOwn, TellsJoint}
use Rattle.package_choices.proofs.Enough.{enough}

pub joint_of : (licensees members joint : List Requirement) (trees : List Tree) (r : Result (Vec (Vec LicenseReq)) (Failure Unmet))
    → choice_of trees licensees ≡ chosen joint → members ≡ those_in joint licensees
    → IfOk r (λ choices. map (own_choice members) trees ≡ map chosen (held choices.items)) → IfOk r (λ choices. IsJoint licensees trees (held choices.items))
joint_of licensees members joint trees (Ok choices) e same own = record {
  joint = joint;
  for_all = e;
  own = ap (λ (z : List Requirement). map (own_choice z) trees) (sym same) ∙ own;
}
joint_of licensees members joint trees (Err e) f same own = tt

-- of choices that are there none is refused
at_chosen : (lists : List (List Requirement)) (place : ℕ) (e : MinimizeError) → slice_get (map chosen lists) place ≡ Some (refused_choice e) → ⊥
at_chosen [] place e f = cc
at_chosen (l ∷ ls) zero (TooManyRequirements n) f = let bad : Some (chosen l) ≡ Some (too_many n) = f in cc
at_chosen (l ∷ ls) zero RequirementsUnmet f = let bad : Some (chosen l) ≡ Some unmet = f in cc
at_chosen (l ∷ ls) (suc place) e f = at_chosen ls place e f

never_refused : (choices : List Choice) (place : ℕ) (e : MinimizeError) → AreChosen choices → IsFirstRefused choices place e → ⊥
never_refused choices place e (lists, is) first = at_chosen lists place e (subst (λ (z : List Choice). slice_get z place ≡ Some (refused_choice e)) is first.refused)

-- so an expression is not refused among the licensees of the one choice
pub not_refused : (licensees members joint : List Requirement) (trees : List Tree) (r : Result (Vec (Vec LicenseReq)) (Failure Unmet))
    → choice_of trees licensees ≡ chosen joint → members ≡ those_in joint licensees
    → IfErr r (IfRefused (TellsOwn members trees)) → IfErr r (IfRefused (TellsJoint licensees trees))
not_refused licensees members joint trees (Ok choices) f same told = tt
not_refused licensees members joint trees (Err (Memory e)) f same told = tt
not_refused licensees members joint trees (Err (Refused (Together e))) f same told = absurd told
not_refused licensees members joint trees (Err (Refused (Expression place e))) f same told =
    absurd (never_refused (map (own_choice members) trees) place e (subst (λ (z : List Requirement). AreChosen (map (own_choice z) trees)) (sym same) (enough trees licensees joint f)) told)
