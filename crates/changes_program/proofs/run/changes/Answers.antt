use Rattle.list_program.specs.Named.{inside_of}
use Rattle.changes_program.proofs.Passing.{new_ones_pass}
use Rattle.changes_program.proofs.run.changes.Goals as goal

pub returns-clause-passes : goal.returns-clause-passes
returns-clause-passes g c zero path named =
    new_ones_pass (g.S.Shelf.told c.args.shelf.now) (inside_of c.args.inside.list.now c.args.inside.extras.now) c.args.replacements.now c.args.request c.in_ok-run.run'
    (record {
      catalogue = c.in_ok-catalogue.catalogue;
      policy = c.in_ok-policy.policy;
      list_is = c.in_ok-catalogue.ensures.ok;
      policy_is = c.in_ok-policy.ensures.ok;
      runs = c.in_ok-run.ensures;
    }) zero path named
