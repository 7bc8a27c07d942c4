-- What the choice by a policy says, of the policy of a file.
use Rattle.std.specs.Prelude.{ℕ, Bool, List}
use Rattle.shelves.specs.Shelf.{Shelved}
use Rattle.spdx_requirement.specs.Rows.{Rows}
use Rattle.spdx_policy.specs.Rules.{Rules}
use Rattle.package_items.specs.declared.package.Package.{Package}
use Rattle.gate_program.specs.Policy.{IsPolicyAt}
use Rattle.choice_program.specs.declared.choosing.ChoiceTrouble.{ChoiceTrouble}
use Rattle.choice_program.specs.declared.choosing.ChoiceTrouble.TheVariants as trouble
use Rattle.choice_program.specs.Allowed.{IsNoChoiceByPolicy}
use Rattle.choice_program.specs.Chosen.{IsNoChoiceAt}

pub of_policy : (s : Shelved) (replacements : List ℕ) (c : Rows) (path : List ℕ) (one : Bool) (ps : List Package) (p : Rules) (t : ChoiceTrouble) → IsPolicyAt s replacements c path p → IsNoChoiceByPolicy c p one ps t → IsNoChoiceAt s replacements c path one ps t
of_policy s replacements c path one ps p (trouble.NoChoices us) at is = (p, at, is)
of_policy s replacements c path one ps p (trouble.NoneTogether w) at is = (p, at, is)
of_policy s replacements c path one ps p trouble.Memory at is = tt
of_policy s replacements c path one ps p (trouble.Policy t) at is = absurd is
of_policy s replacements c path one ps p (trouble.NoLicensee n r) at is = absurd is
