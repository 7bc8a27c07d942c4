use Rattle.std.proofs.Common.{◌≡◌, ◌++◌, drop}
use Rattle.spdx_hints.specs.Plain as spec
use Rattle.spdx_hints.proofs.plain.undotted.Given as goal

abbrev pub invariant-loop-byte : goal.invariant-loop-byte
invariant-loop-byte l = l.plain.items ++ spec.undotted_from l.is_letter l.is_lone (drop l.byte-index l.text) ≡ spec.undotted l.text
