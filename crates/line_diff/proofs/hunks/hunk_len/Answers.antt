use Rattle.std.proofs.Common.{◌≡◌, ◌+◌, ◌-◌, suc, length, map, sym, ◌∙◌, arith}
use Rattle.std.proofs.lemmas.List.{length-map}
use Rattle.line_diff.specs.Diff.{is_shown, pair_of}
use Rattle.line_diff.proofs.Shown.{prefix_len-more}
use Rattle.line_diff.proofs.hunks.hunk_len.Goals as goal

pub loop-end-preserved : goal.loop-end-preserved
loop-end-preserved c =
    let pairs = map pair_of c.args.rows.now in
    let end = c.loop-end.end in
    let left : length pairs - end ≡ suc (length pairs - (end + 1)) = omega (arith, length-map c.args.rows.now pair_of) in
    let more = prefix_len-more (is_shown pairs) end (length pairs - end) (length pairs - (end + 1)) left (sym c.is_shown.ensures ∙ c.if-not-is_shown.false) in
    omega (arith, more, c.loop-end.invariant)
