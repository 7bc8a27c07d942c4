use Rattle.std.proofs.lemmas.Result.{on_ok_weaker}
use Rattle.gate_told.proofs.Appended.{three}
use Rattle.gate_told.proofs.unread.put_meant.Goals as goal

pub returns : goal.returns
returns c =
    on_ok_weaker c.put_others.result (λ e. three _ _ _ _ _ _ _ c.in_ok-push_str.ensures.bytes c.in_ok-push_str-2.ensures.bytes e) c.put_others.ensures
