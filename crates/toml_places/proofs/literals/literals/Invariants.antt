use Rattle.std.proofs.Common.{◌≡◌, ◌-◌, ◌≤◌, ◌++◌, length, drop}
use Rattle.text_places.specs.Order.{AreInOrder}
use Rattle.toml_places.specs.Literals.{literals, literals_from}
use Rattle.toml_places.proofs.literals.literals.Given as goal

abbrev pub invariant-loop-at : goal.invariant-loop-at
invariant-loop-at l = record {
  within : l.at ≤ length l.bytes;
  depth : l.line.depth ≤ l.at;
  in_order : AreInOrder 0 l.found.items l.at;
  values : l.found.items ++ literals_from l.line l.at 0 (drop l.at l.bytes) ≡ literals l.bytes;
}

abbrev pub decreases-loop-at : goal.decreases-loop-at
decreases-loop-at l = length l.bytes - l.at
