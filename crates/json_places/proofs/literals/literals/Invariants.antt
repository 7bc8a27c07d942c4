use Rattle.std.proofs.Common.{◌≡◌, length, ◌-◌, ◌≤◌, ◌++◌, drop}
use Rattle.json_places.specs.Literals.{literals, literals_from}
use Rattle.json_places.proofs.literals.literals.Given as goal

abbrev pub invariant-loop-at : goal.invariant-loop-at
invariant-loop-at l = record {
  within : l.at ≤ length l.bytes;
  found : literals l.bytes ≡ l.found.items ++ literals_from l.at 0 (drop l.at l.bytes);
}

abbrev pub decreases-loop-at : goal.decreases-loop-at
decreases-loop-at l = length l.bytes - l.at
