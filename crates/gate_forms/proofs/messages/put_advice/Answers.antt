use Rattle.std.proofs.Common.{append_assoc}
use Rattle.gate_forms.proofs.messages.put_advice.Goals as goal

pub returns-in_ok-put_names-in-Allow : goal.returns-in_ok-put_names-in-Allow
returns-in_ok-put_names-in-Allow c =
    rw (c.in_ok-put_names-in-Allow.ensures, c.in_ok-push_str-in-Allow.ensures.bytes, c.in-Allow.is) (simp append_assoc)
