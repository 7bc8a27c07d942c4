use Rattle.std.proofs.Common.{◌≡◌, ◌+◌, ◌<◌, ◌≤◌, ◌++◌, length, min}
use Rattle.line_engine.specs.Lines.{lines_of}
use Rattle.license_tags.specs.Tags.{tag_text, tags_from, tags_of, AreInOrder}
use Rattle.license_tags.proofs.Occurring.{IsNext}
use Rattle.license_tags.proofs.tags.Given as goal

abbrev pub invariant-loop-next : goal.invariant-loop-next
invariant-loop-next l = record {
  next : IsNext tag_text l.rest l.next;
  done : tags_of l.comment l.bytes ≡ l.found.items ++ tags_from l.comment l.opened l.number l.offset (lines_of l.rest);
  within : 0 < length l.rest → l.offset + length l.rest ≤ length l.bytes;
  number : l.number ≤ l.offset + 1;
  order : AreInOrder 0 l.found.items (min l.offset (length l.bytes));
}

abbrev pub decreases-loop-next : goal.decreases-loop-next
decreases-loop-next l = length l.rest
