use Rattle.notice_told.specs.Totals.{totals_line}
use Rattle.notice_told.proofs.totals.totals_line.Goals as goal

pub returns : goal.returns
unfolding totals_line
returns c =
    let h = c.in_ok-line.ensures.ok in
    rw c.in_ok-packages.ensures at (rw c.in_ok-own.ensures at (rw c.in_ok-general.ensures at (rw c.in_ok-without.ensures at h)))
