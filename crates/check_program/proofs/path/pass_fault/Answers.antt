use Rattle.std.proofs.Common.{◌∙◌, sym}
use Rattle.check_files.proofs.Steps.{on_ok}
use Rattle.check_program.proofs.path.pass_fault.Goals as goal

pub returns-in-Some-clause-ok : goal.returns-in-Some-clause-ok
returns-in-Some-clause-ok g c = on_ok c.pass_over.result _ _ (λ p. (c.in-Some.trouble, sym c.trouble_of.ensures ∙ c.in-Some.is, p)) c.pass_over.ensures.ok
