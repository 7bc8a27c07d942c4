use Rattle.std.proofs.Common.{◌≡◌, ◌+◌, ◌++◌, length, map}
use Rattle.line_diff.specs.Diff.{rows_of, pair_of}
use Rattle.line_diff.proofs.rows.rows_of.Given as goal

abbrev pub invariant-loop-old : goal.invariant-loop-old
invariant-loop-old l = map pair_of l.rows.items ++ rows_of l.old l.new ≡ rows_of l.initial.old l.initial.new

abbrev pub decreases-loop-old : goal.decreases-loop-old
decreases-loop-old l = length l.old + length l.new
