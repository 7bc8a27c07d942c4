use Rattle.std.proofs.Common.{◌≡◌, ◌++◌, map}
use Rattle.std.specs.List.{flat_map, range_with_len}
use Rattle.line_diff.specs.Diff.{pair_of, shown_text}
use Rattle.line_diff.proofs.hunks.put_rows.Given as goal

abbrev pub invariant-loop-i : goal.invariant-loop-i
invariant-loop-i l = l.text.items ≡ l.initial.text.items ++ flat_map (shown_text (map pair_of l.rows)) (range_with_len 0 l.i)
