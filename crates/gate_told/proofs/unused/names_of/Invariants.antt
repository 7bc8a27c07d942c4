use Rattle.std.proofs.Common.{◌≡◌, map, take, string_bytes}
use Rattle.spdx_evaluation.specs.Requirements.{nows}
use Rattle.gate_told.proofs.unused.names_of.Given as goal

abbrev pub invariant-loop-text : goal.invariant-loop-text
invariant-loop-text l = nows l.names.items ≡ map string_bytes (take l.text-index l.texts)
