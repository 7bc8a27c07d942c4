use Rattle.std.proofs.Common.{◌≡◌, ℕ, ◌<◌, false, true, List, length, map, take, get_or, sym, ap, ◌∙◌, subst, arith}
use Rattle.std.specs.Prelude.{All}
use Rattle.std.proofs.Math.ListN.{get_or-map, length-map}
use Rattle.std.proofs.lemmas.List.{get_or_default, map_push, take_all, take_more}
use Rattle.std.proofs.lemmas.List.Elements.{All-push}
use Rattle.spdx_requirement.specs.Rows.{Rows}
use Rattle.file_fixes.specs.declared.Span.{Span}
use Rattle.file_fixes.specs.Fixing.{IsRead, IsRefused, text_at}
use Rattle.file_fixes.proofs.fixing.is_refused.Goals as goal

pub returns-then-not-branch-clause-yes : goal.returns-then-not-branch-clause-yes
returns-then-not-branch-clause-yes c _ =
    let zero : Span = record { start = 0; end = 0 } in
    let rows : Rows = c.args.catalogue.now in
    let i : ℕ = c.loop-span.span-index in
    let spans : List Span = c.args.spans.now in
    let span : Span = get_or spans i zero in
    let at : Span → List ℕ = text_at c.args.bytes.now in
    let within : i < length spans = c.loop-span-test.true in
    let is : c.text_at.result.now ≡ at span = c.text_at.ensures in
    let no : c.in_ok-is_read.field-0 ≡ false = grind (arith, c.if-not-branch.true) in
    let refused : IsRefused rows (at span) = subst (IsRefused rows) is (c.in_ok-is_read.ensures.no no) in
    (i, at span, omega (arith, within, length-map spans at), get_or-map at spans i span ∙ ap at (get_or_default spans i span zero within), refused)

pub loop-span-preserved : goal.loop-span-preserved
loop-span-preserved c =
    let zero : Span = record { start = 0; end = 0 } in
    let rows : Rows = c.args.catalogue.now in
    let i : ℕ = c.loop-span.span-index in
    let spans : List Span = c.args.spans.now in
    let span : Span = get_or spans i zero in
    let at : Span → List ℕ = text_at c.args.bytes.now in
    let is : c.text_at.result.now ≡ at span = c.text_at.ensures in
    let yes : c.in_ok-is_read.field-0 ≡ true = grind (arith, c.if-not-branch.false) in
    let reads : IsRead rows (at span) = subst (IsRead rows) is (c.in_ok-is_read.ensures.yes yes) in
    subst (All (IsRead rows)) (sym (ap (map at) (take_more spans i zero c.loop-span-test.true) ∙ map_push at (take i spans) span))
    (All-push (IsRead rows) (map at (take i spans)) (at span) c.loop-span.invariant reads)

pub returns-clause-no : goal.returns-clause-no
returns-clause-no c _ =
    subst (λ (ss : List Span). All (IsRead c.args.catalogue.now) (map (text_at c.args.bytes.now) ss)) (take_all c.loop-span.span-index c.args.spans.now c.loop-span-test.false) c.loop-span.invariant
