use Rattle.std.proofs.Common.{rules, ◌≡◌, ◌∙◌, ℕ, List, None, Some, take, subst, sym, ap, arith}
use Rattle.std.proofs.lemmas.Str.{IsCharBoundary-after_ascii}
use Rattle.memchr.specs.Find.{IsFirstByte, is_byte}
use Rattle.list_program.proofs.Parted.{found_place, parted_there, parted_nowhere}
use Rattle.list_program.proofs.cells.at_tab.Goals as goal

pub range_from-requires : goal.range_from-requires
range_from-requires c =
    let line : List ℕ = c.args.line.now in
    let f = found_place 9 line c.in-Some.at (subst (λ (bs : List ℕ). IsFirstByte (is_byte 9) bs (Some c.in-Some.at)) c.as_bytes.ensures.value c.in-Some.ensures) in
    λ some. IsCharBoundary-after_ascii line c.in-Some.at c.utf8.line f.1 (omega (arith, f.2))

pub returns-in-Some : goal.returns-in-Some
returns-in-Some c =
    let line : List ℕ = c.args.line.now in
    let front : c.range.result.now ≡ take c.in-Some.at line = search rules in
    ap (λ (a : List ℕ). Some (a, c.range_from.result.now)) front
    ∙ ap (λ (b : List ℕ). Some (take c.in-Some.at line, b)) c.range_from.ensures.value
    ∙ sym (parted_there 9 line c.in-Some.at (subst (λ (bs : List ℕ). IsFirstByte (is_byte 9) bs (Some c.in-Some.at)) c.as_bytes.ensures.value c.in-Some.ensures))

pub returns-in-None : goal.returns-in-None
returns-in-None c = sym (parted_nowhere 9 c.args.line.now (subst (λ (bs : List ℕ). IsFirstByte (is_byte 9) bs None) c.as_bytes.ensures.value c.in-None.ensures))
