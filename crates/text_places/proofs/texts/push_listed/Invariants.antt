use Rattle.std.proofs.Common.{◌≡◌, ◌≤◌, ◌++◌, length}
use Rattle.text_places.specs.Texts.{listed}
use Rattle.text_places.proofs.texts.push_listed.Given as goal

abbrev pub invariant-loop-rest : goal.invariant-loop-rest
invariant-loop-rest l = record {
  within : length l.rest ≤ length l.text;
  items : l.initial.found.items ++ (listed l.grammar l.end 0 l.text).values ≡ l.found.items ++ (listed l.grammar l.end 0 l.rest).values;
  is_open : (listed l.grammar l.end 0 l.text).is_open ≡ (listed l.grammar l.end 0 l.rest).is_open;
}

abbrev pub decreases-loop-rest : goal.decreases-loop-rest
decreases-loop-rest l = length l.rest
