use Rattle.fix_program.proofs.Untouched.{untouched}
use Rattle.fix_program.proofs.file.file_fixed.Goals as goal

pub returns-clause-needless : goal.returns-clause-needless
returns-clause-needless g c reads =
    untouched (g.S.Shelf.told c.args.shelf.now) c.args.manner.catalogue.now c.args.manner.is_written c.args.parts c.args.path.now c.in_ok-fixed.fixed c.in_ok-fixed.ensures.ok reads
