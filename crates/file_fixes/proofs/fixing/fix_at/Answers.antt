use Rattle.std.proofs.Common.{ℕ, List, Option, refl, sym, subst, arith}
use Rattle.std.specs.Prelude.{All, Any, IfSome}
use Rattle.spdx_requirement.specs.Rows.{Rows}
use Rattle.file_fixes.specs.declared.MendedText.{MendedText}
use Rattle.file_fixes.specs.declared.Span.{Span}
use Rattle.file_fixes.specs.Mending.{Marked, marked, Mends}
use Rattle.file_fixes.specs.Fixing.{IsGiven, IsFixed, IsRead, IsRefused, texts_in}
use Rattle.file_fixes.proofs.Laws.{laws}
use Rattle.file_fixes.proofs.fixing.fix_at.Goals as goal
use Rattle.file_fixes.proofs.fixing.fix_at.Goals.{Joined-mended-gt0, then-mended-gt0, else-mended-gt0}

module _ (c : Joined-mended-gt0) where
  abbrev rows : Rows
  rows = c.args.catalogue.now

  abbrev old : Marked
  old = marked c.args.bytes.now c.args.spans.now

  abbrev mended : MendedText
  mended = c.in-Some.mended

  abbrev at : List ℕ → List Span → List (List ℕ)
  at bytes spans = texts_in (marked bytes spans)

  given : IsGiven mended.bytes.items mended.count c.if-mended-gt0.bytes
  given = elim c.if-mended-gt0.branch [
    | then-mended-gt0 w ↦ subst (IsGiven mended.bytes.items mended.count) (sym w.bytes-is) (w.if-mended-gt0.true, refl)
    | else-mended-gt0 w ↦ subst (IsGiven mended.bytes.items mended.count) (sym w.bytes-is) (omega (arith, w.if-mended-gt0.false))
  ]

  is_fixed : IsFixed rows old (record { bytes = c.if-mended-gt0.bytes; is_left = c.in_ok-is_left.is_left })
  is_fixed = record {
    new = marked mended.bytes.items mended.spans.items;
    count = mended.count;
    mends = subst (λ (o : Option MendedText). IfSome o (λ m. Mends rows old (marked m.bytes.items m.spans.items) m.count)) c.in-Some.is c.in_ok-mended.ensures.mends;
    given = given;
    left = λ e.
        subst (λ (b : List ℕ). Any (IsRefused rows) (at b mended.spans.items)) c.deref.ensures.value
        (subst (λ (ss : List Span). Any (IsRefused rows) (at c.deref.result.now ss)) c.deref-2.ensures.value (c.in_ok-is_left.ensures.yes e));
    whole = λ e.
        subst (λ (b : List ℕ). All (IsRead rows) (at b mended.spans.items)) c.deref.ensures.value
        (subst (λ (ss : List Span). All (IsRead rows) (at c.deref.result.now ss)) c.deref-2.ensures.value (c.in_ok-is_left.ensures.no e));
  }

pub returns-clause-fixed : goal.returns-clause-fixed
returns-clause-fixed c = is_fixed c

pub returns-clause-laws : goal.returns-clause-laws
returns-clause-laws c = laws c.args.catalogue.now (marked c.args.bytes.now c.args.spans.now) _ (is_fixed c)
