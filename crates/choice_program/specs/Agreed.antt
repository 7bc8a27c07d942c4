-- What is chosen by a policy is accepted by it, and the choice and the gate agree.
use Rattle.std.specs.Prelude.{◌≡◌, ◌<◌, ℕ, Bool, true, false, List, Some, All, length, map, string_bytes}
use Rattle.std.proofs.Common.{◌⊎◌}
use Rattle.std.specs.List.{AllZip, list_any}
use Rattle.spdx_requirement.specs.Items.{Requirement}
use Rattle.spdx_requirement.specs.Equality.{same_requirement}
use Rattle.spdx_requirement.specs.Rows.{Rows}
use Rattle.spdx_parser.specs.Tree.{Tree, leaves}
use Rattle.spdx_evaluation.specs.Truth.{holds}
use Rattle.spdx_policy.specs.Rules.{Rules}
use Rattle.package_items.specs.declared.package.Package.{Package}
use Rattle.spdx_gate.specs.declared.package.Verdict.{Verdict}
use Rattle.spdx_gate.specs.declared.package.Verdict.TheVariants as verdict
use Rattle.spdx_gate.specs.Judging.{allowed_in, mode_of}
use Rattle.spdx_gate.specs.Reports.{IsVerdictOf, Means}
use Rattle.spdx_gate.specs.Verdicts.{passes}
use Rattle.gate_program.specs.Files.{view_of}
use Rattle.choice_program.specs.declared.choosing.ChoiceTrouble.{ChoiceTrouble}
use Rattle.choice_program.specs.declared.choosing.ChoiceTrouble.TheVariants as trouble
use Rattle.choice_program.specs.declared.choosing.Chosen.{Chosen}
use Rattle.choice_program.specs.declared.unchosen.Unchosen.{Unchosen}
use Rattle.package_items.specs.Each.{AreHad}
use Rattle.choice_program.specs.Named.{named, shown_all}
use Rattle.choice_program.specs.Unchosen.{told_name}
use Rattle.choice_program.specs.Judged.{tables_for, text_for}

-- one of these is the same
abbrev pub is_among : List Requirement → Requirement → Bool
is_among chosen r = list_any (λ q. same_requirement q r) chosen

-- the policy allows the package each requirement of the choice, and these make its expression true
pub record IsAccepted (c : Rows) (p : Rules) (x : Package) (chosen : List Requirement) :
    Type 0 where
  pub text : List ℕ
  pub tree : Tree
  pub text_is : text_for p x ≡ Some text
  pub means : Means c (mode_of p) text tree
  pub allowed : All (λ r. allowed_in p (tables_for p x) r ≡ true) chosen
  pub suffices : holds (is_among chosen) tree ≡ true

abbrev pub AreAccepted : Rows → Rules → List Package → Chosen → Type 0
AreAccepted c p packages chosen =
    (choices : List (List Requirement)) ×
    (shown_all chosen.choices.items ≡ map (map named) choices) ×
    AllZip (IsAccepted c p) packages choices

-- the gate lets the package pass
abbrev pub Passes : Rows → Rules → Package → Verdict → Type 0
Passes c p x v = IsVerdictOf c p (view_of x) v × (passes v ≡ true)

-- more requirements than a choice is sought among
abbrev pub IsLong : Rows → Rules → Package → Type 0
IsLong c p x =
    (text : List ℕ) × (t : Tree) × (text_for p x ≡ Some text) × Means c (mode_of p) text t ×
    (1024 < length (leaves t))

-- the gate refuses the package; or it states no licence, which the policy may allow; or its
-- expression is too long
abbrev pub IsLeft : Rows → Rules → Package → Verdict → Type 0
IsLeft c p x v =
    IsVerdictOf c p (view_of x) v ×
    ((passes v ≡ false) ⊎ ((v ≡ verdict.Unstated p.unstated) ⊎ IsLong c p x))

abbrev pub IsToldOf : Rows → Rules → Package → Unchosen → Type 0
IsToldOf c p x u = (string_bytes u.name ≡ told_name x) × ((v : Verdict) × IsLeft c p x v)

-- each package passes
abbrev pub AllPass : Rows → Rules → List Package → Type 0
AllPass c p packages = (verdicts : List Verdict) × AllZip (Passes c p) packages verdicts

-- those that are told are left by the gate, and each other one passes
abbrev pub Agrees : Rows → Rules → List Package → ChoiceTrouble → Type 0
Agrees c p packages (trouble.NoChoices us) =
    (verdicts : List Verdict) × AreHad (Passes c p) (IsToldOf c p) packages verdicts us.items
Agrees c p packages (trouble.NoneTogether w) = AllPass c p packages
Agrees c p packages t = Unit {0}
