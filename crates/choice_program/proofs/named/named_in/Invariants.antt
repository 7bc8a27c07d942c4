use Rattle.std.proofs.Common.{◌≡◌, ◌++◌, map}
use Rattle.spdx_evaluation.specs.Requirements.{PlacedRequirement}
use Rattle.spdx.specs.Iterators.{requirements_left}
use Rattle.spdx.specs.Value.{placed}
use Rattle.choice_program.specs.Named.{named, shown}
use Rattle.choice_program.proofs.named.named_in.Given as goal

abbrev pub invariant-loop-requirement : goal.invariant-loop-requirement
invariant-loop-requirement l =
    map shown l.all.items ++ map named (map (λ (p : PlacedRequirement). p.0) (requirements_left l.requirement-iterator))
    ≡ map named (map (λ (p : PlacedRequirement). p.0) (placed l.fn.expression))
