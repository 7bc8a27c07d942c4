use Rattle.std.proofs.Common.{◌≡◌, drop, max}
use Rattle.spdx_minimize.specs.Places.{longest}
use Rattle.spdx_minimize.proofs.judge.longest_of.Given as goal

abbrev pub invariant-loop-list : goal.invariant-loop-list
invariant-loop-list l = max l.most (longest (drop l.list-index l.lists)) ≡ longest l.lists
