-- The policy that packages are judged by.
use Rattle.std.specs.Prelude.{◌≡◌, ℕ, List, Ok, Err, map, string_bytes}
use Rattle.std.specs.List.{AllZip}
use Rattle.shelves.specs.Shelf.{Shelved, to_read}
use Rattle.spdx_requirement.specs.Rows.{Rows}
use Rattle.spdx_licensee.specs.Replacements.{IsReplacementOf, KnownReplacement, ReplacedName}
use Rattle.spdx_list.specs.Files.{ExtraRows, ReplacementRow, extras_in}
use Rattle.spdx_policy.specs.Meant.{IsPolicyOf}
use Rattle.spdx_policy.specs.Refused.{IsRefusedText}
use Rattle.spdx_policy.specs.Rules.{Rules}
use Rattle.gate_program.specs.declared.policy.PolicyTrouble.{PolicyTrouble}
use Rattle.gate_program.specs.declared.policy.PolicyTrouble.TheVariants as trouble

abbrev pub replaced_name_of : ReplacementRow → ReplacedName
replaced_name_of r = record { name = r.name; write = r.write }

-- what the extras say stands in the place of the list's deprecated names
pub record AreReplacementsIn (bytes : List ℕ) (c : Rows) (replacements : List KnownReplacement) :
    Type 0 where
  pub extras : ExtraRows
  pub says : extras_in bytes ≡ Ok extras
  pub replacements_are : AllZip (IsReplacementOf c) (map replaced_name_of extras.instead)
      replacements

-- the policy is what the bytes of the file at the path mean, with these replacements
pub record IsPolicyAt (s : Shelved) (replacements : List ℕ) (c : Rows) (path : List ℕ) (p : Rules) :
    Type 0 where
  pub bytes : List ℕ
  pub rows : List KnownReplacement
  pub holds : s.Holds path bytes
  pub succeed : AreReplacementsIn replacements c rows
  pub means : IsPolicyOf c rows bytes p

-- the file at the path can't be read; nothing is said of memory
abbrev pub IsUnread : Shelved → List ℕ → PolicyTrouble → Type 0
IsUnread s path (trouble.Unreadable n e) = (string_bytes n ≡ path) × s.Fails to_read path e
IsUnread s path trouble.Memory = Unit {0}
IsUnread s path t = ⊥

abbrev pub AreNoReplacements : List ℕ → PolicyTrouble → Type 0
AreNoReplacements replacements (trouble.NoReplacements f) = extras_in replacements ≡ Err f
AreNoReplacements replacements trouble.Memory = Unit {0}
AreNoReplacements replacements t = ⊥

-- why there is no policy at the path
abbrev pub IsNoPolicyAt : Shelved → List ℕ → Rows → List ℕ → PolicyTrouble → Type 0
IsNoPolicyAt s replacements c path (trouble.Unreadable n e) =
    (string_bytes n ≡ path) × s.Fails to_read path e
IsNoPolicyAt s replacements c path (trouble.NoPolicy n f) =
    (bytes : List ℕ) × s.Holds path bytes × (string_bytes n ≡ path) × IsRefusedText c bytes f
IsNoPolicyAt s replacements c path (trouble.NoReplacements f) = extras_in replacements ≡ Err f
IsNoPolicyAt s replacements c path trouble.Memory = Unit {0}
