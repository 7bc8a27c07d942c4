use Rattle.std.proofs.Common.{◌≡◌, map, take}
use Rattle.gate_told.specs.Moved.{moved}
use Rattle.gate_told.specs.Texts.{owned_leaf}
use Rattle.gate_told.proofs.judged_texts.JudgedTexts.leaves.Given as goal

abbrev pub invariant-loop-requirement : goal.invariant-loop-requirement
invariant-loop-requirement l = map moved l.leaves.items ≡ map owned_leaf (take l.requirement-index l.requirements)
