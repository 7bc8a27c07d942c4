use Rattle.std.proofs.Common.{List, ℕ, ◌++◌, ◌∙◌, ap, subst}
use Rattle.spdx_requirement.specs.Rows.{row_of}
use Rattle.spdx_requirement.specs.declared.row.License.{License}
use Rattle.spdx_list.specs.declared.diff.RowChange.{RowChange}
use Rattle.spdx_list.specs.DiffShown.{pair_of}
use Rattle.spdx_list.specs.Shown.{shown_extras}
use Rattle.list_told.specs.Changes.{IsLicenseChange}
use Rattle.list_told.proofs.Behind.{none_yet, one_more}
use Rattle.list_told.proofs.changes.license_changes.Goals as goal

pub loop-change-init : goal.loop-change-init
loop-change-init c =
    none_yet (IsLicenseChange c.args.catalogue.now (shown_extras c.args.extras.now)) c.new-text.result.items c.new-text.ensures.items

pub loop-change-preserved : goal.loop-change-preserved
loop-change-preserved c =
    one_more (IsLicenseChange c.args.catalogue.now (shown_extras c.args.extras.now)) (pair_of row_of) c.args.changes.now c.loop-change.change-index c.change-item.result
    c.loop-change.text.items c.in_ok-lines.lines.items c.extend_from_slice.new.self.items
    c.loop-change.invariant c.loop-change-test.true
    (subst (λ (z : RowChange License). IsLicenseChange c.args.catalogue.now (shown_extras c.args.extras.now) (pair_of row_of z) c.in_ok-lines.lines.items)
    c.change-item.is c.in_ok-lines.ensures)
    (c.in_ok-extend_from_slice.ensures.items ∙ ap (λ (bytes : List ℕ). c.loop-change.text.items ++ bytes) c.deref.ensures.value)
