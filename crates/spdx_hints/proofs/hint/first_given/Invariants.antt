use Rattle.std.proofs.Common.{◌≡◌, map, drop, find}
use Rattle.spdx_requirement.specs.Rows.{row_of, imprecise_of}
use Rattle.spdx_hints.specs.Borrowed.{nows}
use Rattle.spdx_hints.specs.Hints as spec
use Rattle.spdx_hints.proofs.hint.first_given.Given as goal

abbrev pub invariant-loop-rule : goal.invariant-loop-rule
invariant-loop-rule l =
    let gives = spec.gives (map imprecise_of (nows l.found)) l.phrase (map row_of l.licenses) in
    find gives (drop l.rule-index l.rule-items) ≡ find gives spec.rules_asked
