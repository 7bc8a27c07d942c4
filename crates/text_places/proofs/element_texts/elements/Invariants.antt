use Rattle.std.proofs.Common.{◌≡◌, ◌-◌, ◌≤◌, ◌++◌, length}
use Rattle.text_places.specs.Elements.{elements_of, elements_from, AreInOrder}
use Rattle.text_places.proofs.element_texts.elements.Given as goal

abbrev pub invariant-loop-rest : goal.invariant-loop-rest
invariant-loop-rest l = record {
  within : length l.rest ≤ length l.bytes;
  values : elements_of l.name l.bytes ≡ l.found.items ++ elements_from l.name (length l.bytes) 0 l.rest;
  order : AreInOrder 0 l.found.items (length l.bytes - length l.rest);
}

abbrev pub decreases-loop-rest : goal.decreases-loop-rest
decreases-loop-rest l = length l.rest
