use Rattle.std.proofs.Common.{◌++◌, ℕ, List, map, sym, ap, ◌∙◌, append_assoc}
use Rattle.std.specs.List.{flat_map, range_with_len}
use Rattle.line_diff.specs.Diff.{pair_of, shown_text}
use Rattle.line_diff.proofs.Shown.{flat_map-range}
use Rattle.line_diff.proofs.hunks.put_rows.Goals as goal

pub loop-i-preserved : goal.loop-i-preserved
loop-i-preserved c =
    let f = shown_text (map pair_of c.args.rows.now) in
    let i = c.loop-i.i in
    let before = flat_map f (range_with_len 0 i) in
    c.in_ok-put_shown.ensures ∙ ap (λ (xs : List ℕ). xs ++ f i) c.loop-i.invariant
    ∙ append_assoc c.args.text.now.items before (f i) ∙ ap (λ (xs : List ℕ). c.args.text.now.items ++ xs) (sym (flat_map-range f i))
