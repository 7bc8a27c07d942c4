use Rattle.std.proofs.Common.{⊎_elim}
use Rattle.spdx_gate.proofs.Sets.{entry_more}
use Rattle.spdx_gate.proofs.uses.add_by.Goals as goal

pub returns-in_ok-insert-in-Allowed : goal.returns-in_ok-insert-in-Allowed
returns-in_ok-insert-in-Allowed c =
    let more = entry_more c.args.entries.now c.insert.new.self c.in-Allowed.entry c.in_ok-insert-in-Allowed.ensures.updates in
    ⊎_elim (λ is. rw is more) (λ is. rw is more) c.in-Allowed.is
