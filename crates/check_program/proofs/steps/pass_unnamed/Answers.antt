use Rattle.std.proofs.Common.{refl}
use Rattle.check_files.proofs.Doing.{hears_nil}
use Rattle.check_program.proofs.steps.pass_unnamed.Goals as goal

pub returns-then-unnamed-eq0-clause-ok : goal.returns-then-unnamed-eq0-clause-ok
returns-then-unnamed-eq0-clause-ok g c = rw (c.if-unnamed-eq0.true) (hears_nil (g.T.Telling.told c.args.teller.now), refl)
