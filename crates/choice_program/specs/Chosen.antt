-- What packages are used under, by a list or by the policy of a file.
use Rattle.std.specs.Prelude.{ℕ, Bool, List}
use Rattle.shelves.specs.Shelf.{Shelved}
use Rattle.spdx_requirement.specs.Rows.{Rows}
use Rattle.spdx_policy.specs.Rules.{Rules}
use Rattle.package_items.specs.declared.package.Package.{Package}
use Rattle.gate_program.specs.Policy.{IsNoPolicyAt, IsPolicyAt}
use Rattle.choice_program.specs.declared.choosing.ChoiceTrouble.{ChoiceTrouble}
use Rattle.choice_program.specs.declared.choosing.ChoiceTrouble.TheVariants as trouble
use Rattle.choice_program.specs.declared.choosing.Chosen.{Chosen}
use Rattle.choice_program.specs.Choose.{IsChosenAmong, IsNoChoiceAmong}
use Rattle.choice_program.specs.declared.acceptance.Accepted.{Accepted}
use Rattle.choice_program.specs.declared.acceptance.Accepted.TheVariants as accepted
use Rattle.choice_program.specs.Allowed.{IsChosenByPolicy, IsNoChoiceByPolicy}

-- by the policy of the file at the path
abbrev pub IsChosenAt : Shelved → List ℕ → Rows → List ℕ → Bool → List Package → Chosen → Type 0
IsChosenAt s replacements c path one packages chosen =
    (p : Rules) × IsPolicyAt s replacements c path p × IsChosenByPolicy c p one packages chosen

-- there is no policy, or no choice by it; nothing is said of memory
abbrev pub IsNoChoiceAt : Shelved → List ℕ → Rows → List ℕ → Bool → List Package →
    ChoiceTrouble → Type 0
IsNoChoiceAt s replacements c path one packages (trouble.Policy t) =
    IsNoPolicyAt s replacements c path t
IsNoChoiceAt s replacements c path one packages trouble.Memory = Unit {0}
IsNoChoiceAt s replacements c path one packages t =
    (p : Rules) × IsPolicyAt s replacements c path p × IsNoChoiceByPolicy c p one packages t

abbrev pub IsChosen : Shelved → List ℕ → Rows → Accepted → Bool → List Package → Chosen → Type 0
IsChosen s replacements c (accepted.List list m) one packages chosen =
    IsChosenAmong c list.now m one packages chosen
IsChosen s replacements c (accepted.Policy path) one packages chosen =
    IsChosenAt s replacements c path.now one packages chosen

abbrev pub IsNoChoice : Shelved → List ℕ → Rows → Accepted → Bool → List Package →
    ChoiceTrouble → Type 0
IsNoChoice s replacements c (accepted.List list m) one packages t =
    IsNoChoiceAmong c list.now m one packages t
IsNoChoice s replacements c (accepted.Policy path) one packages t =
    IsNoChoiceAt s replacements c path.now one packages t
