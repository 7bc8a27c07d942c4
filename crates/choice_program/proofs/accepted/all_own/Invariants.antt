use Rattle.std.proofs.Common.{map, take}
use Rattle.choice_program.specs.Among.{AreOwn, meant_of}
use Rattle.choice_program.proofs.accepted.all_own.Given as goal

abbrev pub invariant-loop-one : goal.invariant-loop-one
invariant-loop-one l = AreOwn l.accepted (map meant_of (take l.one-index l.stated)) l.own
