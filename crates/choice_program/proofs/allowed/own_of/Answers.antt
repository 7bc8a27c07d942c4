use Rattle.choice_program.proofs.allowed.own_of.Goals as goal

pub returns-in-Ok-clause-ok : goal.returns-in-Ok-clause-ok
returns-in-Ok-clause-ok c d p h = c.in-Ok.ensures.ok d p c.args.listed.now h
