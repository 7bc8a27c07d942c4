use Rattle.std.proofs.Common.{map}
use Rattle.changes_program.specs.Said.{said_row}
use Rattle.changes_program.proofs.Telling.{all_are_marked, none_are_marked}
use Rattle.changes_program.proofs.tellings.told_of.Goals as goal

pub returns-in_ok-tellings-in-Some : goal.returns-in_ok-tellings-in-Some
returns-in_ok-tellings-in-Some c =
    all_are_marked c.args.catalogue.now (map said_row c.args.said.now) c.in_ok-tellings-in-Some.tellings.items c.in_ok-report-in-Some.report c.args.policy.now c.in-Some.policy
    c.in-Some.is c.in_ok-report-in-Some.ensures c.in_ok-tellings-in-Some.ensures

pub returns-in_ok-tellings-in-None : goal.returns-in_ok-tellings-in-None
returns-in_ok-tellings-in-None c =
    none_are_marked c.args.catalogue.now (map said_row c.args.said.now) c.in_ok-tellings-in-None.tellings.items c.args.policy.now c.in-None.is c.in_ok-tellings-in-None.ensures
