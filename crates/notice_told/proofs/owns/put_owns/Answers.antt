use Rattle.notice_told.proofs.owns.put_owns.Goals as goal

pub returns : goal.returns
returns c =
    let owed = rw c.in_ok-offered.ensures at (rw c.in_ok-chosen.ensures at (rw c.deref.ensures.value at (rw c.deref-2.ensures.value at c.in_ok-owed.ensures))) in
    rw owed at (rw c.deref-3.ensures.value at c.in_ok-put_files.ensures)
