use Rattle.std.proofs.Common.{◌≡◌, map, take}
use Rattle.gate_program.specs.Asked.{lent, packages_in}
use Rattle.gate_program.proofs.before.packages_of.Given as goal

abbrev pub invariant-loop-file : goal.invariant-loop-file
invariant-loop-file l = map lent l.packages.items ≡ packages_in (take l.file-index l.files)
