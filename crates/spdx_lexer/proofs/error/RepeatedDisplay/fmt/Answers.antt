use Rattle.std.proofs.Common.{arith}
use Rattle.std.proofs.lemmas.Grind.{common_steps}
use Rattle.spdx_lexer.proofs.Printed.{repeat_next}
use Rattle.spdx_lexer.proofs.error.RepeatedDisplay.fmt.Goals as goal

pub loop-i-preserved : goal.loop-i-preserved
loop-i-preserved g c = grind (arith, common_steps, repeat_next)
