use Rattle.std.proofs.Common.{nat_eq, List, ℕ, sym, ap, ◌∙◌, arith}
use Rattle.std.specs.List.{starts_with}
use Rattle.std.proofs.lemmas.List.{take_rest}
use Rattle.text_places.proofs.Reading.{through-more}
use Rattle.text_places.proofs.tags.through.Goals as goal

pub loop-i-preserved : goal.loop-i-preserved
loop-i-preserved c =
    let text = c.args.text.now in
    let mark = c.args.mark.now in
    let not = ap (λ (xs : List ℕ). starts_with nat_eq xs mark) (sym (take_rest text c.loop-i.i)) ∙ sym c.starts_with.ensures.value ∙ c.if-starts_with.false in
    let more = through-more mark text c.loop-i.i (omega arith) not in
    omega (arith, more, c.loop-i.invariant)
