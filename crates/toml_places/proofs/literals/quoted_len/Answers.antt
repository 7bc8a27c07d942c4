use Rattle.std.proofs.Common.{◌≡◌, ℕ, List, ◌∷◌, ◌+◌, nat_eq, false, get_or, drop, sym, ap, ◌∙◌, arith}
use Rattle.std.specs.List.{starts_with}
use Rattle.std.proofs.lemmas.List.{drop_more, take_rest}
use Rattle.toml_places.specs.Literals.{is_escape, quoted_len}
use Rattle.toml_places.proofs.Scan.{quoted_len-more}
use Rattle.toml_places.proofs.literals.quoted_len.Goals as goal
use Rattle.toml_places.proofs.literals.quoted_len.Goals.{then-is_escaped, else-is_escaped+else-starts_with}

pub loop-at-preserved : goal.loop-at-preserved
loop-at-preserved c =
    let l = c.loop-at in
    let bytes = c.args.bytes.now in
    let quotes = c.args.quotes.now in
    let rest = drop (l.at + 1) bytes in
    let here = drop_more bytes l.at 0 c.loop-at-test.true in
    elim c.if-is_escaped.branch [
      | then-is_escaped w ↦
          let more : quoted_len quotes l.is_escaped (drop l.at bytes) ≡ 1 + quoted_len quotes false rest = rw (w.if-is_escaped.true, here) in
          rw w.is_escaped-is (omega (arith, l.invariant, more))
      | else-is_escaped+else-starts_with w ↦
          let goes_on : starts_with nat_eq (get_or bytes l.at 0 ∷ rest) quotes ≡ false =
          ap (λ (xs : List ℕ). starts_with nat_eq xs quotes) (sym here ∙ sym (take_rest bytes l.at)) ∙ sym w.starts_with.ensures.value ∙ w.if-starts_with.false in
          let more : quoted_len quotes l.is_escaped (drop l.at bytes) ≡ 1 + quoted_len quotes (is_escape quotes (get_or bytes l.at 0)) rest =
          rw (w.if-is_escaped.false, here) (quoted_len-more quotes (get_or bytes l.at 0) rest goes_on) in
          rw (w.is_escaped-is, w.is_escape-is_escaped.ensures) (omega (arith, l.invariant, more))
    ]
