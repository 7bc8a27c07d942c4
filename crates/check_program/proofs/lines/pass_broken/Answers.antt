use Rattle.check_files.proofs.Steps.{on_ok}
use Rattle.check_program.proofs.lines.pass_broken.Goals as goal

pub returns-clause-ok : goal.returns-clause-ok
returns-clause-ok g c = on_ok c.pass_over.result _ _ (λ p. (c.in_ok-name.name, c.in_ok-name.ensures.ok, p)) c.pass_over.ensures.ok
