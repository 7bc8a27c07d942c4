use Rattle.std.proofs.Common.{◌≡◌, ◌≤◌, drop}
use Rattle.package_items.specs.Texts.{closes_behind}
use Rattle.package_items.proofs.joined.is_open.Given as goal

abbrev pub invariant-loop-byte : goal.invariant-loop-byte
invariant-loop-byte l =
    (closes_behind 0 l.text ≡ closes_behind l.depth (drop l.byte-index l.text))
    × (l.depth ≤ l.byte-index)
