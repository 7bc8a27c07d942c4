use Rattle.std.proofs.Common.{◌≡◌, ◌++◌, map}
use Rattle.spdx_evaluation.specs.Requirements.{PlacedRequirement}
use Rattle.spdx.specs.Iterators.{requirements_left}
use Rattle.spdx.specs.Value.{placed}
use Rattle.spdx_calls.specs.Answers.{lines_text}
use Rattle.spdx_calls.proofs.listing.lines_in.Given as goal

-- the lines so far, and those of the requirements that are left, are all lines
abbrev pub invariant-loop-requirement : goal.invariant-loop-requirement
invariant-loop-requirement l = l.text.items ++ lines_text (map (λ (p : PlacedRequirement). p.0) (requirements_left l.requirement-iterator)) ≡ lines_text (map (λ (p : PlacedRequirement). p.0) (placed l.fn.expression))
