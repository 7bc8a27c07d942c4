use Rattle.std.proofs.Common.{rules}
use Rattle.package_items.proofs.Each.{whole_of}
use Rattle.choice_program.proofs.accepted.stated_by.Goals as goal

pub returns-then-is_empty-clause-ok : goal.returns-then-is_empty-clause-ok
returns-then-is_empty-clause-ok c = whole_of c.in_ok-all.ensures (search rules)
