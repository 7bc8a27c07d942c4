use Rattle.std.proofs.Common.{◌≡◌, string_bytes, flat_map}
use Rattle.package_items.specs.Items.{escape}
use Rattle.package_items.proofs.item.escaped.Given as goal

abbrev pub invariant-loop-letter : goal.invariant-loop-letter
invariant-loop-letter l = string_bytes l.line ≡ flat_map escape l.yielded
