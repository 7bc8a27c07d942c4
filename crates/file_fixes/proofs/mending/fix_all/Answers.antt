use Rattle.std.proofs.Common.{◌≡◌, ℕ, ◌+◌, ◌≤◌, ◌++◌, ◌∷◌, [], Bool, true, false, List, Option, None, Some, String, Global, is_some, option_map, unwrap_or, string_bytes, length, length-append, get_or, take, drop, map, refl, sym, ap, ◌∙◌, subst, append_assoc, arith}
use Rattle.std.specs.Prelude.{if◌then◌else◌}
use Rattle.std.proofs.lemmas.List.{take_more, take_all, take-append-drop, take_rest}
use Rattle.file_fixes.specs.declared.Span.{Span}
use Rattle.file_fixes.specs.Mending.{marked, Mends, span_at, old_piece}
use Rattle.file_fixes.proofs.Pieces.{AreInOrder-le, AreInOrder-next, IsCutAtSpans-in_order, same_span, piece_of, piece_of-bytes, piece_of-span}
use Rattle.file_fixes.proofs.Progress.{MendsSoFar, MendsSoFar-none, MendsSoFar-push, MendsSoFar-rest}
use Rattle.file_fixes.proofs.Settled.{settled}
use Rattle.file_fixes.proofs.mending.fix_all.Goals as goal
use Rattle.file_fixes.proofs.mending.fix_all.Goals.{In_ok-extend_from_slice-2, then-span-at-via-then-span-at, then-span-at-via-else-span-at+then-span, then-span-at-via-else-span-at+else-span+then-bytes-span}

pub loop-span-init : goal.loop-span-init
loop-span-init c = record {
  done = MendsSoFar-none c.args.catalogue.now [] c.new.result.items [] c.new-2.result.items 0 refl c.new.ensures.items refl c.new-2.ensures.items refl;
  within = omega arith;
  ordered = λ h. h;
  count = omega arith;
}

pub returns-then-span-at-clause-none : goal.returns-then-span-at-clause-none
returns-then-span-at-clause-none c _ apart =
    let zero : Span = record { start = 0; end = 0 } in
    let i = c.loop-span.span-index in
    let spans = c.args.spans.now in
    let span = get_or spans i zero in
    let len = length c.args.bytes.now in
    let h = AreInOrder-next c.loop-span.at spans i zero len c.loop-span-test.true (c.loop-span.invariant.ordered apart) in
    let end = AreInOrder-le span.end (drop (i + 1) spans) len h.2 in
    elim c.then-span-at.branch [
      | then-span-at-via-then-span-at w ↦ omega (arith, h.0)
      | then-span-at-via-else-span-at+then-span w ↦ omega (arith, h.1)
      | then-span-at-via-else-span-at+else-span+then-bytes-span w ↦ omega (arith, end)
    ]

is_some-map : (o : Option (String Global)) → is_some (option_map string_bytes o) ≡ is_some o
is_some-map None = refl
is_some-map (Some s) = refl

at_most : (old new i : ℕ) (b : Bool) → new ≡ old + (if b then 1 else 0) → old ≤ i → new ≤ i + 1
at_most old new i true e h = omega arith
at_most old new i false e h = omega arith

pub loop-span-preserved : goal.loop-span-preserved
loop-span-preserved c =
    let zero : Span = record { start = 0; end = 0 } in
    let i = c.loop-span.span-index in
    let at = c.loop-span.at in
    let spans = c.args.spans.now in
    let bytes = c.args.bytes.now in
    let span = get_or spans i zero in
    let piece = piece_of bytes at span in
    let old = c.loop-span.mended in
    let new = c.put.new.mended in
    let fix = option_map string_bytes c.in_ok-fix_bytes.field-0 in
    let text = unwrap_or fix piece.text in
    let front = c.in_ok-extend_from_slice.ensures.items in
    let all = c.in_ok-put.ensures.bytes in
    let placed : Span = record { start = length c.extend_from_slice.new.self.items; end = length new.bytes.items } in
    let pushed = MendsSoFar-push c.args.catalogue.now (take at bytes) old.bytes.items (take i spans) old.spans.items old.count c.loop-span.invariant.done
    piece.before piece.text fix c.in_ok-fix_bytes.ensures (take span.end bytes) new.bytes.items span placed new.count
    (piece_of-bytes bytes at span (omega arith) (omega arith) (omega arith))
    (piece_of-span bytes at span (omega arith) (omega arith) (omega arith))
    (all ∙ ap (λ (xs : List ℕ). xs ++ text) front ∙ append_assoc old.bytes.items piece.before text)
    (same_span placed (span_at (length old.bytes.items) (record { before = piece.before; text = text })) (omega (arith, ap length front, length-append old.bytes.items piece.before))
    (omega (arith, ap length all, ap length front, length-append old.bytes.items piece.before, length-append c.extend_from_slice.new.self.items text)))
    (c.in_ok-put.ensures.count ∙ ap (λ b. old.count + (if b then 1 else 0)) (sym (is_some-map c.in_ok-fix_bytes.field-0))) in
    record {
      done =
          subst (λ (ss : List Span). MendsSoFar c.args.catalogue.now (marked (take span.end bytes) ss) (marked new.bytes.items new.spans.items) new.count) (sym (take_more spans i zero c.loop-span-test.true))
          (subst (λ (ss : List Span). MendsSoFar c.args.catalogue.now (marked (take span.end bytes) (take i spans ++ span ∷ [])) (marked new.bytes.items ss) new.count) (sym c.in_ok-put.ensures.spans) pushed);
      within = omega arith;
      ordered = λ apart. (AreInOrder-next at spans i zero (length bytes) c.loop-span-test.true (c.loop-span.invariant.ordered apart)).2;
      count = at_most old.count new.count i (is_some c.in_ok-fix_bytes.field-0) c.in_ok-put.ensures.count c.loop-span.invariant.count;
    }

mends : (c : In_ok-extend_from_slice-2) →
    Mends c.args.catalogue.now (marked c.args.bytes.now c.args.spans.now) (marked c.extend_from_slice-2.new.self.items c.loop-span.mended.spans.items) c.loop-span.mended.count
mends c =
    let i = c.loop-span.span-index in
    let at = c.loop-span.at in
    let spans = c.args.spans.now in
    let bytes = c.args.bytes.now in
    let old = c.loop-span.mended in
    let new = c.extend_from_slice-2.new.self.items in
    subst (λ (ss : List Span). Mends c.args.catalogue.now (marked bytes ss) (marked new old.spans.items) old.count) (take_all i spans c.loop-span-test.false)
    (MendsSoFar-rest c.args.catalogue.now (take at bytes) old.bytes.items (take i spans) old.spans.items old.count c.loop-span.invariant.done bytes new (drop at bytes)
    (sym (take-append-drop at bytes)) (c.in_ok-extend_from_slice-2.ensures.items ∙ ap (λ (xs : List ℕ). old.bytes.items ++ xs) (take_rest bytes at)))

pub returns-clause-settled : goal.returns-clause-settled
returns-clause-settled c = settled c.args.catalogue.now (marked c.args.bytes.now c.args.spans.now) (marked c.extend_from_slice-2.new.self.items c.loop-span.mended.spans.items) c.loop-span.mended.count (mends c)

pub returns-clause-in_order : goal.returns-clause-in_order
returns-clause-in_order c =
    let m = mends c in
    IsCutAtSpans-in_order c.args.bytes.now c.args.spans.now (map old_piece m.sites) m.rest m.was
