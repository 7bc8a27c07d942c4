use Rattle.std.proofs.Common.{List, ap, map, ◌∙◌}
use Rattle.spdx_requirement.specs.Rows.{ExceptionRow, exception_of, exception_name}
use Rattle.spdx_list.specs.Diff.{changes, is_same_exception, nows, only_here}
use Rattle.spdx_list.specs.DiffShown.{pair_of}
use Rattle.spdx_list.specs.Shown.{shown_extras}
use Rattle.list_told.specs.Changes.{IsExceptionChange, added_exception}
use Rattle.list_told.proofs.Lines.{three, told_by}
use Rattle.list_told.proofs.differing.exception_diff.Goals as goal

pub returns : goal.returns
returns c =
    let old = c.args.old.now.exceptions in
    let new = c.args.new.now.exceptions in
    let found = c.in_ok-found.found in
    told_by exception_name added_exception (IsExceptionChange c.args.new.now (shown_extras c.args.extras.now))
    (only_here exception_name new old) (only_here exception_name old new)
    (map exception_of (nows found.added.items)) (map exception_of (nows found.removed.items))
    (changes exception_name is_same_exception old new) (map (pair_of exception_of) found.changed.items)
    c.in_ok-changes.changes.items c.extend_from_slice.new.self.items
    (c.in_ok-found.ensures.added
    ∙ ap (λ (z : List ExceptionRow). only_here exception_name z (map exception_of c.exceptions.result.now)) c.exceptions-2.ensures
    ∙ ap (λ (z : List ExceptionRow). only_here exception_name new z) c.exceptions.ensures)
    (c.in_ok-found.ensures.removed
    ∙ ap (λ (z : List ExceptionRow). only_here exception_name z (map exception_of c.exceptions-2.result.now)) c.exceptions.ensures
    ∙ ap (λ (z : List ExceptionRow). only_here exception_name old z) c.exceptions-2.ensures)
    (c.in_ok-found.ensures.changed
    ∙ ap (λ (z : List ExceptionRow). changes exception_name is_same_exception z (map exception_of c.exceptions-2.result.now)) c.exceptions.ensures
    ∙ ap (λ (z : List ExceptionRow). changes exception_name is_same_exception old z) c.exceptions-2.ensures)
    (rw c.deref.ensures.value at c.in_ok-changes.ensures)
    (three c.new-text.result.items c.put_added_exceptions.new.text.items c.put_removed.new.text.items c.extend_from_slice.new.self.items _ _ _
    c.new-text.ensures.items
    (rw c.deref-2.ensures.value at c.in_ok-put_added_exceptions.ensures)
    (rw c.deref-3.ensures.value at c.in_ok-put_removed.ensures)
    (rw c.deref-4.ensures.value at c.in_ok-extend_from_slice.ensures.items))
