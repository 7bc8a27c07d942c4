use Rattle.std.proofs.Common.{map, take}
use Rattle.spdx_requirement.specs.Rows.{row_of}
use Rattle.spdx_list.specs.DiffShown.{pair_of}
use Rattle.spdx_list.specs.Shown.{shown_extras}
use Rattle.list_told.specs.Changes.{IsLicenseChange}
use Rattle.list_told.specs.Texts.{AreTexts}
use Rattle.list_told.proofs.changes.license_changes.Given as goal

abbrev pub invariant-loop-change : goal.invariant-loop-change
invariant-loop-change l =
    AreTexts (IsLicenseChange l.catalogue (shown_extras l.extras)) (map (pair_of row_of) (take l.change-index l.changes)) l.text.items
