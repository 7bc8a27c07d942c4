use Rattle.std.proofs.Common.{◌≡◌, ◌++◌, map, take}
use Rattle.gate_program.specs.Files.{moved_package, view_of}
use Rattle.gate_program.proofs.judging.add_packages.Given as goal

abbrev pub invariant-loop-one : goal.invariant-loop-one
invariant-loop-one l = map moved_package l.packages.items ≡ map moved_package l.initial.packages.items ++ map view_of (take l.one-index l.listed)
