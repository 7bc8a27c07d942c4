-- How the license of a package changed.
use Rattle.std.specs.Prelude.{◌≡◌, ◌≢◌, ℕ, true, ◌||◌, List, is_some}
use Rattle.spdx_requirement.specs.Rows.{Rows}
use Rattle.spdx_parser.specs.Tree.{Tree}
use Rattle.spdx_canonical.specs.Normal.{normal_text}
use Rattle.spdx_meaning.specs.declared.relation.Relation.{Relation}
use Rattle.spdx_meaning.specs.declared.relation.Relation.TheVariants.{Same, More, Less, Neither}
use Rattle.spdx_meaning.specs.declared.comparison.Comparison.{Comparison}
use Rattle.spdx_meaning.specs.Comparing.{IsComparisonOf}
use Rattle.package_changes.specs.declared.change.LicenseChange.{LicenseChange}
use Rattle.package_changes.specs.declared.change.LicenseChange.TheVariants as change
use Rattle.package_changes.specs.Reading.{IsSaid, IsWhy}

-- both say a tree, and these are written alike
pub record IsRewritten (c : Rows) (old new : List ℕ) : Type 0 where
  pub before : Tree
  pub after : Tree
  pub said_before : IsSaid c old before
  pub said_after : IsSaid c new after
  pub alike : normal_text before ≡ normal_text after

-- both say a tree; these aren't written alike, and compare so
pub record IsCompared (c : Rows) (old new : List ℕ) (x : Comparison) : Type 0 where
  pub before : Tree
  pub after : Tree
  pub said_before : IsSaid c old before
  pub said_after : IsSaid c new after
  pub otherwise : normal_text before ≢ normal_text after
  pub compared : IsComparisonOf before after x

abbrev pub IsLicenseChange : Rows → List ℕ → List ℕ → LicenseChange → Type 0
IsLicenseChange c old new change.Kept = old ≡ new
IsLicenseChange c old new change.Rewritten = (old ≢ new) × IsRewritten c old new
IsLicenseChange c old new (change.Compared x) = (old ≢ new) × IsCompared c old new x
IsLicenseChange c old new (change.Untold before after) =
    (old ≢ new) × IsWhy c old before × IsWhy c new after ×
    ((is_some before || is_some after) ≡ true)

-- ---- the other way round

abbrev pub turned_relation : Relation → Relation
turned_relation Same = Same
turned_relation More = Less
turned_relation Less = More
turned_relation Neither = Neither

abbrev pub turned_comparison : Comparison → Comparison
turned_comparison x = record {
  relation = turned_relation x.relation;
  first_alone = x.second_alone;
  second_alone = x.first_alone;
}

abbrev pub turned : LicenseChange → LicenseChange
turned change.Kept = change.Kept
turned change.Rewritten = change.Rewritten
turned (change.Compared x) = change.Compared (turned_comparison x)
turned (change.Untold before after) = change.Untold after before

-- what asks for more asks for less the other way round, and all else is told alike
abbrev pub Turns : Rows → List ℕ → List ℕ → Type 0
Turns c old new =
    (x : LicenseChange) → IsLicenseChange c old new x → IsLicenseChange c new old (turned x)
