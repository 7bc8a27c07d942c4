-- What packages are used under by a policy, and why there is no choice.
use Rattle.std.specs.Prelude.{◌≡◌, ◌≢◌, Bool, true, List, []}
use Rattle.std.specs.List.{AllZip}
use Rattle.spdx_requirement.specs.Rows.{Rows}
use Rattle.spdx_policy.specs.Rules.{Rules}
use Rattle.package_items.specs.declared.package.Package.{Package}
use Rattle.choice_program.specs.declared.choosing.ChoiceTrouble.{ChoiceTrouble}
use Rattle.choice_program.specs.declared.choosing.ChoiceTrouble.TheVariants as trouble
use Rattle.choice_program.specs.declared.choosing.Chosen.{Chosen}
use Rattle.choice_program.specs.declared.unchosen.Unchosen.{Unchosen}
use Rattle.choice_program.specs.declared.unchosen.Why.{Why}
use Rattle.package_items.specs.Each.{AreHad}
use Rattle.spdx_gate.specs.declared.report.Report.{Report}
use Rattle.choice_program.specs.Judged.{HasNoOwn, HasOwn, IsReportOn}
use Rattle.choice_program.specs.Picked.{ArePicked, IsTooMany, Pick}

-- each has the choice of its judgement, and what is told is that, or its part of one choice for all
pub record IsChosenByPolicy (c : Rows) (p : Rules) (one : Bool) (packages : List Package)
    (chosen : Chosen) : Type 0 where
  pub own : List Pick
  pub each : AllZip (HasOwn c p) packages own
  pub picked : ArePicked one own chosen

-- some packages have none
pub record AreUnchosen (c : Rows) (p : Rules) (packages : List Package)
    (lacking : List Unchosen) : Type 0 where
  pub own : List Pick
  pub each : AreHad (HasOwn c p) (HasNoOwn c p) packages own lacking
  pub some : lacking ≢ []

-- each has one, and there is none for all of them
pub record IsNoneTogether (c : Rows) (p : Rules) (packages : List Package) (w : Why) :
    Type 0 where
  pub own : List Pick
  pub each : AllZip (HasOwn c p) packages own
  pub too_many : IsTooMany own w

-- nothing is said of memory
abbrev pub IsNoChoiceByPolicy : Rows → Rules → Bool → List Package → ChoiceTrouble → Type 0
IsNoChoiceByPolicy c p one packages (trouble.NoChoices us) = AreUnchosen c p packages us.items
IsNoChoiceByPolicy c p one packages (trouble.NoneTogether w) =
    (one ≡ true) × IsNoneTogether c p packages w
IsNoChoiceByPolicy c p one packages trouble.Memory = Unit {0}
IsNoChoiceByPolicy c p one packages t = ⊥

-- ---- the parts of it, which only private clauses cite

abbrev pub LackOwn : Rows → Rules → List Package → ChoiceTrouble → Type 0
LackOwn c p packages (trouble.NoChoices us) = AreUnchosen c p packages us.items
LackOwn c p packages trouble.Memory = Unit {0}
LackOwn c p packages t = ⊥

abbrev pub LackOwnOn : Report → List Package → ChoiceTrouble → Type 0
LackOwnOn report packages t =
    (c : Rows) → (p : Rules) → IsReportOn c p packages report → LackOwn c p packages t
