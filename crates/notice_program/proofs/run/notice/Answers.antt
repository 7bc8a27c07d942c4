use Rattle.list_program.specs.Named.{inside_of}
use Rattle.notice_program.proofs.Law.{all_noticed, none_written, written_exactly}
use Rattle.notice_program.proofs.run.notice.Goals as goal

pub returns-clause-passes : goal.returns-clause-passes
returns-clause-passes g c zero =
    all_noticed (g.S.Shelf.told c.args.shelf.now) (inside_of c.args.inside.list.now c.args.inside.extras.now) c.args.replacements.now c.args.request c.in_ok-run.run'
    (record { catalogue = c.in_ok-catalogue.catalogue; list_is = c.in_ok-catalogue.ensures.ok; runs = c.in_ok-run.ensures }) zero

pub returns-clause-written : goal.returns-clause-written
returns-clause-written g c = written_exactly c.in_ok-run.run'

pub returns-clause-unchosen : goal.returns-clause-unchosen
returns-clause-unchosen g c none =
    none_written (g.S.Shelf.told c.args.shelf.now) (inside_of c.args.inside.list.now c.args.inside.extras.now) c.args.replacements.now c.args.request c.in_ok-run.run'
    (record { catalogue = c.in_ok-catalogue.catalogue; list_is = c.in_ok-catalogue.ensures.ok; runs = c.in_ok-run.ensures }) none
