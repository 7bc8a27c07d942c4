use Rattle.std.proofs.Common.{◌≡◌, ◌++◌, map, drop}
use Rattle.spdx_requirement.specs.Rows.{imprecise_of}
use Rattle.spdx_hints.specs.Borrowed.{nows}
use Rattle.spdx_hints.specs.Rules as spec
use Rattle.spdx_hints.proofs.rule.spellings.Given as goal

abbrev pub invariant-loop-name : goal.invariant-loop-name
invariant-loop-name l =
    map imprecise_of (nows l.found.items) ++ spec.spellings (map imprecise_of (drop l.name-index l.names)) l.phrase
    ≡ spec.spellings (map imprecise_of l.names) l.phrase
