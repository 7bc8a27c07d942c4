-- Licensees that texts name.
use Rattle.std.specs.Prelude.{ℕ, Bool, List, [], ◌∷◌}
use Rattle.std.specs.List.{list_any}
use Rattle.spdx_requirement.specs.Rows.{Rows}
use Rattle.spdx_requirement.specs.Items.{Requirement}
use Rattle.spdx_licensee.specs.LicenseeText.{Names}
use Rattle.spdx_licensee.specs.Satisfies.{satisfies}

-- each text names the licensee that stands at its place, and there are as many
abbrev pub AreNamed : Rows → List (List ℕ) → List Requirement → Type 0
AreNamed c [] [] = Unit {0}
AreNamed c (text ∷ texts) (licensee ∷ licensees) =
    Names c text licensee × AreNamed c texts licensees
AreNamed c [] (licensee ∷ licensees) = ⊥
AreNamed c (text ∷ texts) [] = ⊥

-- some licensee satisfies the requirement
abbrev pub accepts : List Requirement → Requirement → Bool
accepts accepted r = list_any (λ licensee. satisfies licensee r) accepted
