-- What an expression needs, as the code tells it.
use Rattle.std.specs.Prelude.{ℕ, List, string_bytes}
use Rattle.spdx_requirement.specs.Rows.{Rows}
use Rattle.manifests.specs.declared.form.Form.{Form}
use Rattle.file_fixes.specs.declared.need.Need.{Need}
use Rattle.file_fixes.specs.declared.need.Need.TheVariants.{Nothing, Fix, Help}
use Rattle.file_fixes.specs.ManifestFixing.{IsRead, IsMendedBy, IsHopeless}

abbrev pub IsNeed : Rows → Form → List ℕ → Need → Type 0
IsNeed c form text Nothing = IsRead c form text
IsNeed c form text (Fix fix) = IsMendedBy c form text (string_bytes fix)
IsNeed c form text Help = IsHopeless c form text
