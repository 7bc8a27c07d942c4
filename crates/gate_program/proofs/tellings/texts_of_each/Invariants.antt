use Rattle.std.proofs.Common.{◌≡◌, map, take}
use Rattle.std.specs.Prelude.{All}
use Rattle.gate_program.specs.Tellings.{IsShownIn, judgement_in}
use Rattle.gate_program.proofs.tellings.texts_of_each.Given as goal

abbrev pub invariant-loop-judgement : goal.invariant-loop-judgement
invariant-loop-judgement l = record {
  each : All (IsShownIn l.catalogue l.policy) l.all.items;
  of : map judgement_in l.all.items ≡ take l.judgement-index l.judgements;
}
