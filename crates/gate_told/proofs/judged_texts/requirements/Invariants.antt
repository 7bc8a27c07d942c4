use Rattle.std.proofs.Common.{◌≡◌, ◌++◌, length, map, drop}
use Rattle.spdx_evaluation.specs.Requirements.{requirements_in}
use Rattle.gate_told.specs.Texts.{owned_leaf}
use Rattle.gate_told.specs.Told.{leaves_from}
use Rattle.gate_told.proofs.judged_texts.requirements.Given as goal

-- those so far, and those of what is left, are all
abbrev pub invariant-loop-node : goal.invariant-loop-node
invariant-loop-node l =
    map owned_leaf l.told.items ++ leaves_from l.policy l.decisions (length l.told.items) (requirements_in (drop l.node-index l.nodes))
    ≡ leaves_from l.policy l.decisions 0 (requirements_in l.nodes)
