use Rattle.std.proofs.Common.{◌≡◌, ◌++◌, map, filter, drop}
use Rattle.spdx_requirement.specs.Rows.{row_of, imprecise_of}
use Rattle.spdx_hints.specs.Borrowed.{nows}
use Rattle.spdx_hints.specs.Rules.{may_be_meant}
use Rattle.spdx_hints.proofs.hint.rows_by.Given as goal

abbrev pub invariant-loop-row : goal.invariant-loop-row
invariant-loop-row l =
    map row_of (nows l.rows.items) ++ filter (may_be_meant l.rule (map imprecise_of (nows l.found)) l.phrase) (map row_of (drop l.row-index l.licenses))
    ≡ filter (may_be_meant l.rule (map imprecise_of (nows l.found)) l.phrase) (map row_of l.licenses)
