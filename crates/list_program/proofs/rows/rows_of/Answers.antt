use Rattle.std.proofs.Common.{rules, ◌≡◌, ◌<◌, ◌∙◌, ◌+◌, ◌∷◌, [], ℕ, List, None, Some, length, take, drop, subst, sym, ap, arith}
use Rattle.std.specs.Str.Lines.{lines, strip_carriage_return}
use Rattle.std.proofs.lemmas.Str.{IsCharBoundary-after_ascii}
use Rattle.memchr.specs.Find.{IsFirstByte, is_byte}
use Rattle.list_program.proofs.Parted.{found_place}
use Rattle.list_program.proofs.Cut.{line_there, line_nowhere}
use Rattle.list_program.proofs.Gathered.{row_last, row_more, row_none}
use Rattle.list_program.proofs.rows.rows_of.Goals as goal

pub range_from-rest-requires : goal.range_from-rest-requires
range_from-rest-requires g c =
    let rest : List ℕ = c.loop-end.rest.now in
    let f = found_place 10 rest c.in-Some.end (subst (λ (bs : List ℕ). IsFirstByte (is_byte 10) bs (Some c.in-Some.end)) c.as_bytes.ensures.value c.in-Some.ensures) in
    λ some. IsCharBoundary-after_ascii rest c.in-Some.end c.loop-end.invariant.1 f.1 (omega (arith, f.2))

pub returns-then-not-branch : goal.returns-then-not-branch
returns-then-not-branch g c =
    let rest : List ℕ = c.loop-end.rest.now in
    let h : IsFirstByte (is_byte 10) rest (Some c.in-Some.end) = subst (λ (bs : List ℕ). IsFirstByte (is_byte 10) bs (Some c.in-Some.end)) c.as_bytes.ensures.value c.in-Some.ensures in
    let line : c.without_return.result.now ≡ strip_carriage_return (take c.in-Some.end rest) = search rules in
    let left : lines rest ≡ c.without_return.result.now ∷ lines (drop (c.in-Some.end + 1) rest) = line_there rest c.in-Some.end h ∙ ap (λ (l : List ℕ). l ∷ lines (drop (c.in-Some.end + 1) rest)) (sym line) in
    sym (row_none g.R.LineRow.shown g.R.LineRow.row_at _ _ _ _ _ _ _ (search rules) c.in_ok-put_row.ensures left c.loop-end.invariant.0)

pub loop-end-preserved : goal.loop-end-preserved
loop-end-preserved g c =
    let rest : List ℕ = c.loop-end.rest.now in
    let h : IsFirstByte (is_byte 10) rest (Some c.in-Some.end) = subst (λ (bs : List ℕ). IsFirstByte (is_byte 10) bs (Some c.in-Some.end)) c.as_bytes.ensures.value c.in-Some.ensures in
    let line : c.without_return.result.now ≡ strip_carriage_return (take c.in-Some.end rest) = search rules in
    let behind : c.range_from-rest.result.now ≡ drop (c.in-Some.end + 1) rest = c.range_from-rest.ensures.value in
    let left : lines rest ≡ c.without_return.result.now ∷ lines c.range_from-rest.result.now = line_there rest c.in-Some.end h ∙ ap (λ (l : List ℕ). l ∷ lines (drop (c.in-Some.end + 1) rest)) (sym line)
    ∙ ap (λ (r : List ℕ). c.without_return.result.now ∷ lines r) (sym behind) in (
      row_more g.R.LineRow.shown g.R.LineRow.row_at _ _ _ _ _ _ _ (search rules) c.in_ok-put_row.ensures left c.loop-end.invariant.0,
      c.range_from-rest.utf8,
    )

pub returns-then-not-branch-2 : goal.returns-then-not-branch-2
returns-then-not-branch-2 g c =
    let rest : List ℕ = c.loop-end.rest.now in
    let h : IsFirstByte (is_byte 10) rest None = subst (λ (bs : List ℕ). IsFirstByte (is_byte 10) bs None) c.as_bytes.ensures.value c.in_default.ensures in
    let some : 0 < length rest = search rules in
    sym (row_none g.R.LineRow.shown g.R.LineRow.row_at _ _ _ _ _ [] _ (search rules) c.in_ok-put_row-2.ensures (line_nowhere rest h some) c.loop-end.invariant.0)

pub returns : goal.returns
returns g c =
    let rest : List ℕ = c.loop-end.rest.now in
    let h : IsFirstByte (is_byte 10) rest None = subst (λ (bs : List ℕ). IsFirstByte (is_byte 10) bs None) c.as_bytes.ensures.value c.in_default.ensures in
    let some : 0 < length rest = search rules in
    sym (row_last g.R.LineRow.shown g.R.LineRow.row_at _ _ _ _ _ _ (search rules) c.in_ok-put_row-2.ensures (line_nowhere rest h some) c.loop-end.invariant.0)
