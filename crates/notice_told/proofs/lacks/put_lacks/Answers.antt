use Rattle.notice_told.proofs.lacks.put_lacks.Goals as goal

pub returns : goal.returns
returns c =
    rw c.in_ok-offered.ensures at
    (rw c.in_ok-chosen.ensures at (rw c.deref.ensures.value at (rw c.deref-2.ensures.value at c.in_ok-put_lacking.ensures)))
