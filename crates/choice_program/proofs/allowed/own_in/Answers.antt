use Rattle.std.proofs.Common.{ap}
use Rattle.std.specs.Option.{option_copied}
use Rattle.choice_program.proofs.Owning.{why_result}
use Rattle.choice_program.proofs.allowed.own_in.Goals as goal

pub returns-in-Judged-clause-err : goal.returns-in-Judged-clause-err
returns-in-Judged-clause-err c = why_result _ _ _ c.picked_of.result (ap option_copied c.in-Some.is) c.in-Judged.is c.picked_of.ensures.err
