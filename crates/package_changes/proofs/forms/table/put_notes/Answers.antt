use Rattle.std.proofs.Common.{append_assoc}
use Rattle.package_changes.specs.Table.{notes_cell}
use Rattle.package_changes.proofs.forms.table.put_notes.Goals as goal

pub returns : goal.returns
unfolding notes_cell
returns c =
    rw (c.in_ok-put_refused.ensures, c.in_ok-put_reason-2.ensures, c.in_ok-put_reason.ensures, c.in_ok-put_enough-2.ensures, c.in_ok-put_enough.ensures)
    (simp append_assoc)
