use Rattle.std.proofs.Common.{append_assoc}
use Rattle.finding_forms.proofs.total_line.totals_line.Goals as goal

pub returns : goal.returns
returns c =
    rw (c.in_ok-put_refused.ensures, c.in_ok-put_counted-2.ensures, c.in_ok-push_str.ensures.bytes, c.in_ok-put_counted.ensures, c.new-line.ensures.bytes)
    (simp append_assoc)
