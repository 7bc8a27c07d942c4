use Rattle.std.proofs.Common.{◌+◌, drop, sym, ap, ◌∙◌, arith}
use Rattle.json_places.specs.Literals.{quoted_len}
use Rattle.json_places.proofs.Scan.{quoted_len-more}
use Rattle.json_places.proofs.literals.quoted_len.Goals as goal

pub loop-at-preserved : goal.loop-at-preserved
loop-at-preserved c =
    let l = c.loop-at in
    let bytes = c.args.bytes.now in
    let more = quoted_len-more l.is_escaped bytes l.at c.loop-at-test.true (sym c.is_end.ensures ∙ c.if-is_end.false) in
    let next = more ∙ ap (λ e. 1 + quoted_len e (drop (l.at + 1) bytes)) (sym c.is_escape-is_escaped.ensures) in
    omega (arith, l.invariant, next)
