use Rattle.std.proofs.Common.{append_assoc}
use Rattle.gate_forms.proofs.totals.totals_words.Goals as goal

pub returns : goal.returns
returns c =
    rw (c.in_ok-put_number-4.ensures, c.in_ok-put_number-3.ensures, c.in_ok-put_number-2.ensures, c.in_ok-put_number.ensures, c.in_ok-push_str.ensures.bytes, c.in_ok-put_counted.ensures, c.new-line.ensures.bytes)
    (simp append_assoc)
