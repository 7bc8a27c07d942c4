use Rattle.std.proofs.Common.{map, take}
use Rattle.gate_program.specs.Asked.{lent}
use Rattle.choice_program.specs.Among.{AreStated}
use Rattle.choice_program.proofs.accepted.all_stated.Given as goal

abbrev pub invariant-loop-package : goal.invariant-loop-package
invariant-loop-package l = AreStated l.catalogue l.mode (map lent (take l.package-index l.packages)) l.all
