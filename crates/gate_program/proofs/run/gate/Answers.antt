use Rattle.list_program.specs.Named.{inside_of}
use Rattle.gate_program.proofs.Law.{all_are_allowed}
use Rattle.gate_program.proofs.run.gate.Goals as goal

pub returns-clause-passes : goal.returns-clause-passes
returns-clause-passes g c zero alone =
    all_are_allowed (g.S.Shelf.told c.args.shelf.now) (inside_of c.args.inside.list.now c.args.inside.extras.now) c.args.replacements.now c.args.request c.in_ok-run.run'
    (record {
      catalogue = c.in_ok-catalogue.catalogue;
      policy = c.in_ok-policy.policy;
      list_is = c.in_ok-catalogue.ensures.ok;
      policy_is = c.in_ok-policy.ensures.ok;
      runs = c.in_ok-run.ensures;
    }) zero alone
