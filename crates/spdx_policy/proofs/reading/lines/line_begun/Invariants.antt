use Rattle.std.proofs.Common.{◌≡◌, ◌+◌, ◌-◌, ◌≤◌, length, take, not}
use Rattle.std.specs.List.{suffix_len}
use Rattle.spdx_policy.specs.Lines.{is_newline}
use Rattle.spdx_policy.proofs.reading.lines.line_begun.Given as goal

abbrev pub decreases-loop-start : goal.decreases-loop-start
decreases-loop-start l = l.start

abbrev pub invariant-loop-start : goal.invariant-loop-start
invariant-loop-start l =
    (l.start ≤ length l.before)
    × (suffix_len (λ b. not (is_newline b)) l.before ≡ (length l.before - l.start) + suffix_len (λ b. not (is_newline b)) (take l.start l.before))
