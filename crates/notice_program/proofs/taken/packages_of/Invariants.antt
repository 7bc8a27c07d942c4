use Rattle.std.proofs.Common.{◌≡◌, map, take}
use Rattle.gate_program.specs.Asked.{lent}
use Rattle.notice_program.specs.Taken.{entry_of, package_of}
use Rattle.notice_program.proofs.taken.packages_of.Given as goal

abbrev pub invariant-loop-entry : goal.invariant-loop-entry
invariant-loop-entry l = map lent l.packages.items ≡ map package_of (map entry_of (take l.entry-index l.entries))
