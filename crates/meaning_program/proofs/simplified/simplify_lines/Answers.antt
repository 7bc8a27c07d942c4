use Rattle.std.proofs.Common.{◌≡◌, ◌∙◌, ◌++◌, ◌∷◌, [], List, ℕ, map, take, subst, sym, ap}
use Rattle.std.specs.Borrow.{Bor}
use Rattle.std.specs.List.{take-map}
use Rattle.line_engine.specs.Lines.{cut, lines_of}
use Rattle.spdx_meaning.specs.LeastSets.{any_of}
use Rattle.meaning_program.specs.Simplified.{AreSimplified}
use Rattle.meaning_program.proofs.Pieces.{pieces_are}
use Rattle.meaning_program.proofs.Lines.{IsReadAgain, tells_nothing, writes_each}
use Rattle.meaning_program.proofs.simplified.simplify_lines.Goals as goal

pub returns : goal.returns
returns c =
    let rows = c.args.catalogue.now in
    let bytes = c.args.bytes.now in
    let shown : Bor (List ℕ) → List ℕ = λ x. x.now in
    let all : List (Bor (List ℕ)) = c.in_ok-pieces.pieces.items in
    let n : ℕ = c.line_count.result in
    let cuts : map shown all ≡ (cut bytes).whole ++ (cut bytes).rest ∷ [] = c.in_ok-pieces.ensures ∙ pieces_are bytes in
    let counted : map shown (take n c.deref.result.now) ≡ lines_of bytes =
    sym (take-map shown n c.deref.result.now) ∙ ap (λ (xs : List (Bor (List ℕ))). take n (map shown xs)) (c.deref.ensures.value ∙ sym c.deref-2.ensures.value)
    ∙ c.line_count.ensures.lines (cut bytes).whole (cut bytes).rest (ap (map shown) c.deref-2.ensures.value ∙ cuts) in
    let x = c.in_ok-simplified.simplified in
    let is = subst (λ (ts : List (List ℕ)). AreSimplified rows c.args.is_lax ts x) counted c.in_ok-simplified.ensures in
    let again : IsReadAgain rows = λ t out s means. let k = c.meaning_text_is_read.ensures rows t out s means in (any_of means.sets, k.0, k.3) in
    record {
      ok = is;
      told = tells_nothing rows c.args.is_lax bytes x is;
      each = writes_each rows c.is_well_formed.ensures c.args.is_lax again bytes x is;
    }
