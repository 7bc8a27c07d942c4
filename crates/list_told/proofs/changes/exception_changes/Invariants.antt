use Rattle.std.proofs.Common.{map, take}
use Rattle.spdx_requirement.specs.Rows.{exception_of}
use Rattle.spdx_list.specs.DiffShown.{pair_of}
use Rattle.spdx_list.specs.Shown.{shown_extras}
use Rattle.list_told.specs.Changes.{IsExceptionChange}
use Rattle.list_told.specs.Texts.{AreTexts}
use Rattle.list_told.proofs.changes.exception_changes.Given as goal

abbrev pub invariant-loop-change : goal.invariant-loop-change
invariant-loop-change l =
    AreTexts (IsExceptionChange l.catalogue (shown_extras l.extras)) (map (pair_of exception_of) (take l.change-index l.changes)) l.text.items
