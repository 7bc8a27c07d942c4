use Rattle.std.proofs.Common.{◌≡◌, ◌+◌, ◌-◌, length, map}
use Rattle.std.specs.List.{prefix_len, range_with_len}
use Rattle.line_diff.specs.Diff.{pair_of, is_shown, hunk_len}
use Rattle.line_diff.proofs.hunks.hunk_len.Given as goal

abbrev pub invariant-loop-end : goal.invariant-loop-end
invariant-loop-end l =
    hunk_len (map pair_of l.rows) l.i ≡ (l.end - l.i) + prefix_len (is_shown (map pair_of l.rows)) (range_with_len l.end (length (map pair_of l.rows) - l.end))
