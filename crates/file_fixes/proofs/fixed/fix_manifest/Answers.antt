use Rattle.file_fixes.proofs.ManifestSettled.{laws_of, error_of}
use Rattle.file_fixes.proofs.fixed.fix_manifest.Goals as goal

pub returns-clause-err : goal.returns-clause-err
returns-clause-err c =
    error_of c.args.catalogue.now c.args.form c.args.bytes.now c.in_ok-found.found.items c.in_ok-found.ensures.ok c.in_ok-mending.mending c.in_ok-mending.ensures.ok
    c.settled.result c.settled.ensures.err

pub returns-clause-laws : goal.returns-clause-laws
returns-clause-laws c =
    laws_of c.args.catalogue.now c.args.form c.args.bytes.now c.in_ok-found.found.items c.in_ok-found.ensures.ok c.in_ok-mending.mending c.in_ok-mending.ensures.ok
    c.settled.result c.settled.ensures.ok
