use Rattle.std.proofs.Common.{◌≡◌, map, take, option_map, string_bytes}
use Rattle.spdx_policy.specs.Meant.{reason}
use Rattle.spdx_policy.specs.Drawn.{exception_row}
use Rattle.spdx_policy.proofs.reading.reasons_of.Given as goal

abbrev pub invariant-loop-exception : goal.invariant-loop-exception
invariant-loop-exception l = map (option_map string_bytes) l.reasons.items ≡ map reason (map exception_row (take l.exception-index l.exceptions))
