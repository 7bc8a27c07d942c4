-- What a license was read as. Only private clauses cite it.
use Rattle.std.specs.Prelude.{◌≡◌, ◌≢◌, ℕ, List, Option, None, Some, map}
use Rattle.spdx_requirement.specs.Rows.{Rows}
use Rattle.spdx_parser.specs.Tree.{Tree, node_of}
use Rattle.spdx_evaluation.specs.Postfix.{IsPostfix, tree_in}
use Rattle.package_changes.specs.declared.change.reading.Reading.{Reading}
use Rattle.package_changes.specs.declared.change.reading.Reading.TheVariants as reading
use Rattle.package_changes.specs.declared.change.reading.Untold.{Untold}
use Rattle.package_changes.specs.declared.change.LicenseChange.{LicenseChange}
use Rattle.package_changes.specs.declared.change.LicenseChange.TheVariants as change
use Rattle.spdx_canonical.specs.Normal.{normal_text}
use Rattle.spdx_meaning.specs.Comparing.{IsComparisonOf}
use Rattle.package_changes.specs.Reading.{IsSaid, IsUntold}

abbrev pub IsRead : Rows → List ℕ → Reading → Type 0
IsRead c license (reading.Said nodes) =
    IsSaid c license (tree_in nodes.items) × IsPostfix (map node_of nodes.items)
IsRead c license (reading.Untold why) = IsUntold c license why

abbrev pub why_of : Reading → Option Untold
why_of (reading.Said nodes) = None
why_of (reading.Untold why) = Some why

-- what is told of two trees
abbrev pub IsSaidChange : Tree → Tree → LicenseChange → Type 0
IsSaidChange t u change.Kept = ⊥
IsSaidChange t u change.Rewritten = normal_text t ≡ normal_text u
IsSaidChange t u (change.Compared x) = (normal_text t ≢ normal_text u) × IsComparisonOf t u x
IsSaidChange t u (change.Untold before after) = ⊥
