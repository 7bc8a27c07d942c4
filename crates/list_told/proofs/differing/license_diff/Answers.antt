use Rattle.std.proofs.Common.{List, ap, map, ◌∙◌}
use Rattle.spdx_requirement.specs.Rows.{LicenseRow, row_of, license_name}
use Rattle.spdx_list.specs.Diff.{changes, is_same_license, nows, only_here}
use Rattle.spdx_list.specs.DiffShown.{pair_of}
use Rattle.spdx_list.specs.Shown.{shown_extras}
use Rattle.list_told.specs.Changes.{IsLicenseChange, added_license}
use Rattle.list_told.proofs.Lines.{three, told_by}
use Rattle.list_told.proofs.differing.license_diff.Goals as goal

pub returns : goal.returns
returns c =
    let old = c.args.old.now.licenses in
    let new = c.args.new.now.licenses in
    let found = c.in_ok-found.found in
    told_by license_name added_license (IsLicenseChange c.args.new.now (shown_extras c.args.extras.now))
    (only_here license_name new old) (only_here license_name old new)
    (map row_of (nows found.added.items)) (map row_of (nows found.removed.items))
    (changes license_name is_same_license old new) (map (pair_of row_of) found.changed.items)
    c.in_ok-changes.changes.items c.extend_from_slice.new.self.items
    (c.in_ok-found.ensures.added
    ∙ ap (λ (z : List LicenseRow). only_here license_name z (map row_of c.licenses.result.now)) c.licenses-2.ensures
    ∙ ap (λ (z : List LicenseRow). only_here license_name new z) c.licenses.ensures)
    (c.in_ok-found.ensures.removed
    ∙ ap (λ (z : List LicenseRow). only_here license_name z (map row_of c.licenses-2.result.now)) c.licenses.ensures
    ∙ ap (λ (z : List LicenseRow). only_here license_name old z) c.licenses-2.ensures)
    (c.in_ok-found.ensures.changed
    ∙ ap (λ (z : List LicenseRow). changes license_name is_same_license z (map row_of c.licenses-2.result.now)) c.licenses.ensures
    ∙ ap (λ (z : List LicenseRow). changes license_name is_same_license old z) c.licenses-2.ensures)
    (rw c.deref.ensures.value at c.in_ok-changes.ensures)
    (three c.new-text.result.items c.put_added_licenses.new.text.items c.put_removed.new.text.items c.extend_from_slice.new.self.items _ _ _
    c.new-text.ensures.items
    (rw c.deref-2.ensures.value at c.in_ok-put_added_licenses.ensures)
    (rw c.deref-3.ensures.value at c.in_ok-put_removed.ensures)
    (rw c.deref-4.ensures.value at c.in_ok-extend_from_slice.ensures.items))
