use Rattle.std.proofs.Common.{◌≡◌, map, take}
use Rattle.gate_program.specs.Files.{moved_package}
use Rattle.changes_program.specs.Said.{said_row}
use Rattle.changes_program.specs.Tellings.{judged_of}
use Rattle.changes_program.proofs.tellings.packages_of.Given as goal

abbrev pub invariant-loop-one : goal.invariant-loop-one
invariant-loop-one l = map moved_package l.packages.items ≡ map judged_of (map said_row (take l.one-index l.said))
