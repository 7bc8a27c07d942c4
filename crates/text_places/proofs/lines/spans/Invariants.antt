use Rattle.std.proofs.Common.{◌≡◌, ◌-◌, ◌≤◌, ◌++◌, length}
use Rattle.line_engine.specs.Lines.{lines_of}
use Rattle.text_places.specs.Order.{AreInOrder}
use Rattle.text_places.specs.Fields.{fields_of, fields_from}
use Rattle.text_places.proofs.lines.spans.Given as goal

abbrev pub invariant-loop-rest : goal.invariant-loop-rest
invariant-loop-rest l = record {
  within : length l.rest ≤ length l.bytes;
  values : fields_of l.grammar l.bytes ≡ l.found.items ++ fields_from l.grammar l.place (length l.bytes - length l.rest) (lines_of l.rest);
  order : AreInOrder 0 l.found.items (length l.bytes - length l.rest);
}

abbrev pub decreases-loop-rest : goal.decreases-loop-rest
decreases-loop-rest l = length l.rest
