use Rattle.std.proofs.Common.{◌≡◌, length, drop, ◌++◌}
use Rattle.text_places.specs.Marks.{marked, marked_from}
use Rattle.text_places.specs.Order.{AreInOrder}
use Rattle.text_places.proofs.marks.marked.Given as goal

abbrev pub invariant-loop-number : goal.invariant-loop-number
invariant-loop-number l = record {
  in_order : AreInOrder l.offset (drop l.number l.spans) (length l.bytes);
  written : l.text.items ++ marked_from l.number l.offset l.bytes (drop l.number l.spans) ≡ marked l.bytes l.spans;
}
