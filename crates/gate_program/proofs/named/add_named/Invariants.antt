use Rattle.std.proofs.Common.{◌≡◌, ◌++◌, map, take}
use Rattle.gate_program.specs.Told.{moved_named, named_as}
use Rattle.gate_program.proofs.named.add_named.Given as goal

abbrev pub invariant-loop-one : goal.invariant-loop-one
invariant-loop-one l = map moved_named l.named.items ≡ map moved_named l.initial.named.items ++ map (named_as l.path) (take l.one-index l.packages)
