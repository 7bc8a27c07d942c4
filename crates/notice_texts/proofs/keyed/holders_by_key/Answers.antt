use Rattle.std.proofs.Common.{◌≡◌, ◌+◌, ◌<◌, [], ◌∷◌, ◌++◌, length, map, take, refl, sym, ap, ◌∙◌, subst, arith}
use Rattle.notice_texts.specs.Entries.{entry_of, HasEach, Notes}
use Rattle.notice_texts.proofs.Holding.{has_more, map_more}
use Rattle.notice_texts.proofs.keyed.holders_by_key.Goals as goal

pub loop-one-preserved : goal.loop-one-preserved
loop-one-preserved c =
    let all = c.args.keyed.now in
    let i = c.loop-one.one-index in
    let lt : i < length all = omega arith in
    let met = map entry_of (take i all) in
    let one = c.one-item.result in
    let e = entry_of one in
    let more : map entry_of (take (i + 1) all) ≡ met ++ e ∷ [] = map_more entry_of all i one lt ∙ ap (λ o. met ++ entry_of o ∷ []) (sym c.one-item.is) in
    let noted : Notes c.loop-one.holders e.key one.text.holder c.note.new.holders = subst (λ k. Notes c.loop-one.holders k one.text.holder c.note.new.holders) c.as_slice.ensures.value c.in_ok-note.ensures in
    subst (HasEach c.note.new.holders) (sym more)
    (has_more c.loop-one.holders c.note.new.holders met e one.text.holder c.loop-one.invariant refl noted)
