use Rattle.file_fixes.proofs.Accepted.{accepted, stays}
use Rattle.file_fixes.proofs.mended.mended_of.Goals as goal

pub returns-clause-accepts : goal.returns-clause-accepts
returns-clause-accepts c e =
    accepted c.args.catalogue.now c.args.parts c.args.content.path.now c.args.content.bytes.now c.in_ok-outcome.outcome c.in_ok-outcome.ensures.ok e

pub returns-clause-needless : goal.returns-clause-needless
returns-clause-needless c reads =
    stays c.args.catalogue.now c.args.parts c.args.content.path.now c.args.content.bytes.now c.in_ok-outcome.outcome c.in_ok-outcome.ensures.ok reads
