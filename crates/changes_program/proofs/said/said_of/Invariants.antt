use Rattle.std.proofs.Common.{map, take}
use Rattle.package_changes.specs.Rows.{change_row}
use Rattle.changes_program.specs.Said.{AreSaid, said_row}
use Rattle.changes_program.proofs.said.said_of.Given as goal

abbrev pub invariant-loop-change : goal.invariant-loop-change
invariant-loop-change l = AreSaid l.catalogue (map change_row (take l.change-index l.changes)) (map said_row l.said.items)
