use Rattle.std.proofs.Common.{◌≡◌, ◌++◌, map, take}
use Rattle.gate_program.specs.Asked.{lent}
use Rattle.gate_program.proofs.before.add_packages.Given as goal

abbrev pub invariant-loop-one : goal.invariant-loop-one
invariant-loop-one l = map lent l.packages.items ≡ map lent l.initial.packages.items ++ take l.one-index l.more
