use Rattle.std.proofs.Common.{sym, ap, ◌∙◌, arith}
use Rattle.std.proofs.lemmas.List.{take_rest}
use Rattle.license_tags.specs.Tags.{closes}
use Rattle.license_tags.proofs.Lengths.{closing_place-more}
use Rattle.license_tags.proofs.closing_place.Goals as goal

pub loop-i-preserved : goal.loop-i-preserved
loop-i-preserved c =
    let bytes = c.args.bytes.now in
    let not = ap (closes c.args.comment) (sym (take_rest bytes c.loop-i.i)) ∙ sym c.closes.ensures ∙ c.if-closes.false in
    let h = closing_place-more c.args.comment bytes c.loop-i.i (omega arith) not in
    omega (arith, h, c.loop-i.invariant)
