use Rattle.std.proofs.Common.{◌≡◌, ℕ, ◌+◌, ◌-◌, min, length, take, drop, sym, ap, ◌∙◌, arith}
use Rattle.std.specs.List.{list_any}
use Rattle.line_diff.specs.declared.rows.Row.{Row}
use Rattle.line_diff.specs.Diff.{is_changed, pair_of}
use Rattle.line_diff.proofs.Shown.{list_any-map, window}
use Rattle.line_diff.proofs.hunks.is_shown.Goals as goal

pub returns : goal.returns
returns c =
    let rows = c.args.rows.now in
    let i = c.args.i in
    let changed = λ (low high : ℕ). list_any (λ (r : Row). is_changed (pair_of r)) (take (high - low) (drop low rows)) in
    let four : i + 3 + 1 ≡ i + 4 = omega arith in
    c.any_changed.ensures
    ∙ ap (λ (low : ℕ). changed low c.min-high.result) c.saturating_sub-low.ensures
    ∙ ap (changed (i - 3)) (c.min-high.ensures ∙ ap (min (length rows)) four)
    ∙ sym (list_any-map pair_of is_changed (take (min (length rows) (i + 4) - (i - 3)) (drop (i - 3) rows)))
    ∙ ap (list_any is_changed) (window pair_of rows (i - 3) (i + 4) (omega arith))
