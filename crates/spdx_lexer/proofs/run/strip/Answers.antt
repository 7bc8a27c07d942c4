use Rattle.spdx_lexer.proofs.Front.{strips}
use Rattle.spdx_lexer.proofs.run.strip.Goals as goal

pub returns-clause-value : goal.returns-clause-value
returns-clause-value c = strips c.args.prefix.now c.args.text.now c.strip_prefix.result c.strip_prefix.ensures.cases
