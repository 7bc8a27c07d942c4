use Rattle.std.proofs.Common.{length, ap, arith}
use Rattle.spdx_lexer.proofs.Front.{run_cut}
use Rattle.spdx_lexer.proofs.lexeme.inexact.Goals as goal

pub returns-in-Some-clause-cut : goal.returns-in-Some-clause-cut
returns-in-Some-clause-cut c = run_cut c.args.text.now c.in-Some.found.1 c.utf8.text (omega (arith, c.in-Some.ensures.len, ap length c.requires))

pub returns-in-Some-caseless-clause-cut : goal.returns-in-Some-caseless-clause-cut
returns-in-Some-caseless-clause-cut c = run_cut c.args.text.now c.in-Some-caseless.found.1 c.utf8.text (omega (arith, c.in-Some-caseless.ensures.len, ap length c.requires))

pub returns-then-mode-clause-cut : goal.returns-then-mode-clause-cut
returns-then-mode-clause-cut c = run_cut c.args.text.now (length c.args.run.now) c.utf8.text (omega (arith, ap length c.requires))
