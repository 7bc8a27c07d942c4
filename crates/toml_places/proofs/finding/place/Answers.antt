use Rattle.std.proofs.Common.{◌≡◌, ◌^◌, ◌<◌, length, Some, None, sym, arith}
use Rattle.std.specs.Prelude.{slice_get}
use Rattle.toml.specs.View.{table_view}
use Rattle.toml.specs.Parse.{parse_document}
use Rattle.text_places.specs.Marks.{marked, mark_text}
use Rattle.toml_places.specs.Literals.{literals}
use Rattle.toml_places.specs.Paths.{text_at}
use Rattle.toml_places.proofs.Placed.{nowhere-past, nowhere-other}
use Rattle.toml_places.proofs.finding.place.Goals as goal

pub returns-in_default-span_at : goal.returns-in_default-span_at
returns-in_default-span_at c =
    let number = c.in-Some-2.number in
    let marks = table_view c.in-Some.marks in
    let reads : parse_document (marked c.args.text.now (literals c.args.text.now)) ≡ Some marks = rw c.in-Some.is at c.requires.reads in
    let after : text_at c.args.path.now.steps.items marks ≡ Some (mark_text number) = rw c.in-Some-2.is at c.in_ok-number.ensures.after in
    let past : slice_get (literals c.args.text.now) number ≡ None = rw c.requires.spans at (sym c.in_default-span_at.ensures) in
    let few : length (literals c.args.text.now) < 2 ^ 64 = rw (← c.requires.spans) (omega arith) in
    (tt, nowhere-past c.args.text.now (table_view c.args.document.now) c.args.path.now.steps.items marks number (omega arith) few reads after past)

pub returns-else-is_there : goal.returns-else-is_there
returns-else-is_there c =
    let number = c.in-Some-2.number in
    let marks = table_view c.in-Some.marks in
    let span = c.in-Some-span_at.span in
    let reads : parse_document (marked c.args.text.now (literals c.args.text.now)) ≡ Some marks = rw c.in-Some.is at c.requires.reads in
    let after : text_at c.args.path.now.steps.items marks ≡ Some (mark_text number) = rw c.in-Some-2.is at c.in_ok-number.ensures.after in
    let found : slice_get (literals c.args.text.now) number ≡ Some span = rw c.requires.spans at (sym c.in-Some-span_at.ensures) in
    let few : length (literals c.args.text.now) < 2 ^ 64 = rw (← c.requires.spans) (omega arith) in (
      tt,
      nowhere-other c.args.text.now (table_view c.args.document.now) c.args.path.now.steps.items marks number span (omega arith) few reads after found
          (λ literal. cc (c.in_ok-is_there.ensures.1 literal, c.if-is_there.false)),
    )
