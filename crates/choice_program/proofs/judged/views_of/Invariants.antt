use Rattle.std.proofs.Common.{◌≡◌, map, take}
use Rattle.gate_program.specs.Asked.{lent}
use Rattle.gate_program.specs.Files.{moved_package, view_of}
use Rattle.choice_program.proofs.judged.views_of.Given as goal

abbrev pub invariant-loop-package : goal.invariant-loop-package
invariant-loop-package l = map moved_package l.views.items ≡ map view_of (map lent (take l.package-index l.packages))
