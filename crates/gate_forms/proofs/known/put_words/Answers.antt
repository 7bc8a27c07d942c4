use Rattle.std.proofs.Common.{append_assoc}
use Rattle.gate_forms.proofs.known.put_words.Goals as goal

pub returns : goal.returns
returns c =
    rw (c.in_ok-push_str-3.ensures.bytes, c.in_ok-put_packages.ensures, c.in_ok-push_str-2.ensures.bytes, c.in_ok-put_text.ensures.ok, c.in_ok-push_str.ensures.bytes, c.in_ok-put_counted.ensures)
    (simp append_assoc)
