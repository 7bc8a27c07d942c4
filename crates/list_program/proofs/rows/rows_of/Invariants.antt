use Rattle.std.proofs.Common.{◌≡◌, ◌++◌, option_map, map, length}
use Rattle.std.specs.Str.Lines.{lines}
use denote.Shadow.{shadow}
use denote.Text.{Utf8}
use Rattle.list_program.specs.Lines as spec
use Rattle.list_program.proofs.rows.rows_of.Given as goal

abbrev pub invariant-loop-end : goal.invariant-loop-end
invariant-loop-end g l =
    (spec.rows_from g.R.LineRow.row_at 0 (lines l.text)
    ≡ option_map (λ rows. map g.R.LineRow.shown l.rows.items ++ rows) (spec.rows_from g.R.LineRow.row_at (length l.rows.items) (lines l.rest)))
    × shadow (Utf8 l.rest)

abbrev pub decreases-loop-end : goal.decreases-loop-end
decreases-loop-end g l = length l.rest
