use Rattle.std.proofs.Common.{◌≡◌, ◌≤◌, ℕ, List, Some, length, sym, ap, ◌∙◌, subst, arith}
use Rattle.std.specs.Prelude.{slice_get, slice_range}
use Rattle.text_places.specs.Marks.{mark_text, marked}
use Rattle.text_places.specs.declared.Span.{Span}
use Rattle.text_places.proofs.InOrder.{AreInOrder-at}
use Rattle.serde_json.specs.Data.{string}
use Rattle.serde_json.specs.View.{view}
use Rattle.json_places.specs.Literals.{literals}
use Rattle.json_places.specs.Paths.{text_at}
use Rattle.json_places.specs.Places.{IsRead}
use Rattle.json_places.proofs.Placed.{Stands-number}
use Rattle.json_places.proofs.Scan.{literals-in_order}
use Rattle.json_places.proofs.finding.place.Goals as goal

pub returns-in_default-span_at : goal.returns-in_default-span_at
returns-in_default-span_at c = (
  tt,
  λ span s.
      let reads : IsRead (marked c.args.bytes.now (literals c.args.bytes.now)) (view c.in-Some-Some.marks) = rw c.in-Some-Some.is-0 at c.requires.some in
      let mark : text_at c.args.path.now.steps.items (view c.in-Some-Some.marks) ≡ Some (mark_text c.in-Some.number) = rw c.in-Some.is at c.in_ok-number.ensures.marked in
      let found : slice_get c.args.spans.now c.in-Some.number ≡ Some span =
      Stands-number c.args.bytes.now c.args.spans.now (view c.args.document.now) (view c.in-Some-Some.marks) _ span c.in-Some.number
      c.requires.literals s (omega arith) (omega arith) reads mark in
      let none = c.in_default-span_at.ensures in
      absurd (cc),
)

-- the span that was found lies in the text
within : (bytes : List ℕ) (spans : List Span) (n : ℕ) (span : Span) → spans ≡ literals bytes → Some span ≡ slice_get spans n
    → (slice_get (literals bytes) n ≡ Some span) × (span.start ≤ span.end) × (span.end ≤ length bytes)
within bytes spans n span are found =
    let numbered = ap (λ (spans : List Span). slice_get spans n) (sym are) ∙ sym found in
    let inside = AreInOrder-at 0 (literals bytes) (length bytes) n span (literals-in_order bytes) numbered in
    (numbered, inside.0, inside.1)

pub is_literal-requires-clause-ordered : goal.is_literal-requires-clause-ordered
is_literal-requires-clause-ordered c = (within c.args.bytes.now c.args.spans.now c.in-Some.number _ c.requires.literals c.in-Some-span_at.ensures).1

pub is_literal-requires-clause-within : goal.is_literal-requires-clause-within
is_literal-requires-clause-within c = (within c.args.bytes.now c.args.spans.now c.in-Some.number _ c.requires.literals c.in-Some-span_at.ensures).2

pub returns-then-is_same : goal.returns-then-is_same
returns-then-is_same c =
    let reads : IsRead (marked c.args.bytes.now (literals c.args.bytes.now)) (view c.in-Some-Some.marks) = rw c.in-Some-Some.is-0 at c.requires.some in
    let mark : text_at c.args.path.now.steps.items (view c.in-Some-Some.marks) ≡ Some (mark_text c.in-Some.number) = rw c.in-Some.is at c.in_ok-number.ensures.marked in
    let other = rw c.in-Some.is at c.in_ok-number.ensures.other in
    let text : text_at c.args.path.now.steps.items (view c.args.document.now) ≡ Some c.in-Some-Some.text.now = sym c.in-Some-Some.ensures in
    let (numbered, ordered, inside) = within c.args.bytes.now c.args.spans.now c.in-Some.number c.in-Some-span_at.span c.requires.literals c.in-Some-span_at.ensures in (
      record {
        literal = record {
          ordered = ordered;
          within = inside;
          value = rw text (c.in_ok-is_same.ensures.0 c.if-is_same.true);
        };
        number = c.in-Some.number;
        numbered = numbered;
        meant = record {
          marks = view c.in-Some-Some.marks;
          reads = reads;
          after = mark;
          before = λ same. other (cc);
        };
      },
      tt,
    )

pub returns-else-is_same : goal.returns-else-is_same
returns-else-is_same c = (
  tt,
  λ span s.
      let reads : IsRead (marked c.args.bytes.now (literals c.args.bytes.now)) (view c.in-Some-Some.marks) = rw c.in-Some-Some.is-0 at c.requires.some in
      let mark : text_at c.args.path.now.steps.items (view c.in-Some-Some.marks) ≡ Some (mark_text c.in-Some.number) = rw c.in-Some.is at c.in_ok-number.ensures.marked in
      let found : slice_get c.args.spans.now c.in-Some.number ≡ Some span =
      Stands-number c.args.bytes.now c.args.spans.now (view c.args.document.now) (view c.in-Some-Some.marks) _ span c.in-Some.number
      c.requires.literals s (omega arith) (omega arith) reads mark in
      let here = c.in-Some-span_at.ensures in
      let same : span ≡ c.in-Some-span_at.span = cc in
      let text : text_at c.args.path.now.steps.items (view c.args.document.now) ≡ Some c.in-Some-Some.text.now = sym c.in-Some-Some.ensures in
      let read : IsRead (slice_range c.args.bytes.now span.start span.end) (string c.in-Some-Some.text.now) = rw text at s.literal.value in
      let again = subst (λ (x : Span). IsRead (slice_range c.args.bytes.now x.start x.end) (string c.in-Some-Some.text.now)) same read in
      let is = c.in_ok-is_same.ensures.1 again in
      let not = c.if-is_same.false in
      absurd (cc),
)
