use Rattle.std.proofs.Common.{arith, ◌≡◌, true, false}
use Rattle.selections.proofs.truths.Truths.with_room.Goals as goal

pub returns-in_err-full-clause-inline : goal.returns-in_err-full-clause-inline
returns-in_err-full-clause-inline c = λ h. let both : false ≡ true = c.in_err-full.ensures.succeeds (omega arith) in cc
