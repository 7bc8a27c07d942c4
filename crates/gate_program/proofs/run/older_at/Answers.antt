use Rattle.gate_program.proofs.Runs.{older_is}
use Rattle.gate_program.proofs.run.older_at.Goals as goal

pub returns-clause-ok : goal.returns-clause-ok
returns-clause-ok g c =
    older_is (g.S.Shelf.told c.args.shelf.now) c.args.request.wanted.source c.args.request.baseline c.in-Some.path c.in_ok-older.older c.in_ok-listed.listed
    c.in-Some.is c.in_ok-listed.ensures.ok c.in_ok-older.ensures
