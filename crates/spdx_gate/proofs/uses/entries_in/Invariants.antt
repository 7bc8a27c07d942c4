use Rattle.std.proofs.Common.{take}
use Rattle.spdx_gate.specs.Used.{AreDecided}
use Rattle.spdx_gate.proofs.uses.entries_in.Given as goal

abbrev pub invariant-loop-judgement : goal.invariant-loop-judgement
invariant-loop-judgement l = AreDecided l.entries (take l.judgement-index l.judgements)
