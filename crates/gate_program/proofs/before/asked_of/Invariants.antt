use Rattle.std.proofs.Common.{◌≡◌, ◌++◌, map, drop}
use Rattle.gate_program.specs.Asked.{asked_from, asked_of, lent, moved_asked}
use Rattle.gate_program.proofs.before.asked_of.Given as goal

abbrev pub invariant-loop-number : goal.invariant-loop-number
invariant-loop-number l =
    map moved_asked l.all.items ++ asked_from l.report l.number (map lent (drop l.number l.packages))
    ≡ asked_of l.report (map lent l.packages)
