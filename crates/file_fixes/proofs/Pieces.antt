-- What one more piece does to a cut, and that spans that cut a text are in order.
use Rattle.std.proofs.Common.{◌≡◌, ℕ, ◌+◌, ◌-◌, ◌<◌, ◌≤◌, List, [], ◌∷◌, ◌++◌, length, get_or, take, drop, sym, ap, ◌∙◌, subst, append_assoc, append-nil, length-append, add-zero, arith}
use Rattle.std.specs.List.{flat_map}
use Rattle.std.proofs.lemmas.Grind.{flat_map-append}
use Rattle.std.proofs.lemmas.List.{drop_more, take-take, drop-take, take-append-drop, length-take-le, length-drop}
use Rattle.file_fixes.specs.declared.Span.{Span}
use Rattle.file_fixes.specs.Mending.{marked, Piece, IsCutAtSpans, AreInOrder, span_at, spans_from}

abbrev pub piece_text : Piece → List ℕ
piece_text p = p.before ++ p.text

abbrev joined : List Piece → List ℕ
joined ps = flat_map piece_text ps

moved : (offset : ℕ) (q : Piece) (ps : List Piece) → (span_at offset q).end + length (joined ps) ≡ offset + length (joined (q ∷ ps))
moved offset q ps = omega (arith, length-append (q.before ++ q.text) (joined ps), length-append q.before q.text)

spans_from-push : (offset : ℕ) (ps : List Piece) (p : Piece) → spans_from offset (ps ++ p ∷ []) ≡ spans_from offset ps ++ span_at (offset + length (joined ps)) p ∷ []
spans_from-push offset [] p = ap (λ (n : ℕ). span_at n p ∷ []) (sym (add-zero offset))
spans_from-push offset (q ∷ ps) p =
    ap (λ (ss : List Span). span_at offset q ∷ ss) (spans_from-push (span_at offset q).end ps p ∙ ap (λ (n : ℕ). spans_from (span_at offset q).end ps ++ span_at n p ∷ []) (moved offset q ps))

pub same_span : (s t : Span) → s.start ≡ t.start → s.end ≡ t.end → s ≡ t
same_span s t e f = ap (λ (n : ℕ). record { start = n; end = s.end }) e ∙ ap (λ (n : ℕ). record { start = t.start; end = n }) f

-- one more piece
module _ (bytes : List ℕ) (spans : List Span) (ps : List Piece) (p : Piece) (h : IsCutAtSpans (marked bytes spans) ps []) where
  whole : joined ps ≡ bytes
  whole = sym (append-nil (joined ps)) ∙ h.whole

  pub IsCutAtSpans-push : (bytes' : List ℕ) (span : Span) → bytes' ≡ bytes ++ (p.before ++ p.text) → span ≡ span_at (length bytes) p →
      IsCutAtSpans (marked bytes' (spans ++ span ∷ [])) (ps ++ p ∷ []) []
  IsCutAtSpans-push bytes' span e f = record {
    whole =
        append-nil (joined (ps ++ p ∷ [])) ∙ flat_map-append piece_text ps (p ∷ [])
        ∙ ap (λ (xs : List ℕ). joined ps ++ xs) (append-nil (p.before ++ p.text)) ∙ ap (λ (xs : List ℕ). xs ++ (p.before ++ p.text)) whole ∙ sym e;
    places =
        spans_from-push 0 ps p ∙ ap (λ (ss : List Span). ss ++ span_at (0 + length (joined ps)) p ∷ []) h.places
        ∙ ap (λ (n : ℕ). spans ++ span_at n p ∷ []) (omega (arith, ap length whole)) ∙ ap (λ (s : Span). spans ++ s ∷ []) (sym f);
  }

  -- and what stands behind the last of them
  pub IsCutAtSpans-rest : (rest : List ℕ) → IsCutAtSpans (marked (bytes ++ rest) spans) ps rest
  IsCutAtSpans-rest rest = record { whole = ap (λ (xs : List ℕ). xs ++ rest) whole; places = h.places }

pub AreInOrder-le : (offset : ℕ) (ss : List Span) (len : ℕ) → AreInOrder offset ss len → offset ≤ len
AreInOrder-le offset [] len h = h
AreInOrder-le offset (s ∷ ss) len h = omega (arith, h.0, h.1, AreInOrder-le s.end ss len h.2)

in_order : (offset : ℕ) (ps : List Piece) (rest : List ℕ) → AreInOrder offset (spans_from offset ps) (offset + length (joined ps ++ rest))
in_order offset [] rest = omega arith
in_order offset (p ∷ ps) rest = (
  omega arith,
  omega arith,
  subst (AreInOrder (span_at offset p).end (spans_from (span_at offset p).end ps)) (omega (arith, length-append (piece_text p ++ joined ps) rest, length-append (piece_text p) (joined ps), length-append p.before p.text, length-append (joined ps) rest)) (in_order (span_at offset p).end ps rest),
)

-- spans that cut a text are in order
pub IsCutAtSpans-in_order : (bytes : List ℕ) (spans : List Span) (ps : List Piece) (rest : List ℕ) → IsCutAtSpans (marked bytes spans) ps rest → AreInOrder 0 spans (length bytes)
IsCutAtSpans-in_order bytes spans ps rest h =
    subst (λ (ss : List Span). AreInOrder 0 ss (length bytes)) h.places (subst (AreInOrder 0 (spans_from 0 ps)) (omega (arith, ap length h.whole)) (in_order 0 ps rest))

-- the first of the spans that are left
pub AreInOrder-next : (offset : ℕ) (ss : List Span) (i : ℕ) (d : Span) (len : ℕ) → i < length ss → AreInOrder offset (drop i ss) len →
    AreInOrder offset (get_or ss i d ∷ drop (i + 1) ss) len
AreInOrder-next offset ss i d len l h = subst (λ (xs : List Span). AreInOrder offset xs len) (drop_more ss i d l) h

take_parts : (n m : ℕ) (xs : List ℕ) → take n xs ++ take m (drop n xs) ≡ take (n + m) xs
take_parts n m xs =
    ap (λ (ys : List ℕ). ys ++ take m (drop n xs)) (sym (take-take n (n + m) xs (omega arith)))
    ∙ ap (λ (ys : List ℕ). take n (take (n + m) xs) ++ ys) (sym (drop-take n m xs)) ∙ take-append-drop n (take (n + m) xs)

-- the bytes from an offset up to a span, and the span's own
abbrev pub piece_of : List ℕ → ℕ → Span → Piece
piece_of bytes offset s = record { before = take (s.start - offset) (drop offset bytes); text = take (s.end - s.start) (drop s.start bytes) }

module _ (bytes : List ℕ) (offset : ℕ) (s : Span) (low : offset ≤ s.start) (ordered : s.start ≤ s.end) (within : s.end ≤ length bytes) where
  pub piece_of-bytes : take s.end bytes ≡ take offset bytes ++ piece_text (piece_of bytes offset s)
  piece_of-bytes =
      ap (λ (n : ℕ). take n bytes) (omega arith)
      ∙ sym (take_parts s.start (s.end - s.start) bytes)
      ∙ ap (λ (n : ℕ). take n bytes ++ take (s.end - s.start) (drop s.start bytes)) (omega arith)
      ∙ ap (λ (xs : List ℕ). xs ++ take (s.end - s.start) (drop s.start bytes)) (sym (take_parts offset (s.start - offset) bytes))
      ∙ append_assoc (take offset bytes) (take (s.start - offset) (drop offset bytes)) (take (s.end - s.start) (drop s.start bytes))

  pub piece_of-span : s ≡ span_at (length (take offset bytes)) (piece_of bytes offset s)
  piece_of-span =
      let front : length (take offset bytes) ≡ offset = length-take-le offset bytes (omega arith) in
      let before : length (take (s.start - offset) (drop offset bytes)) ≡ s.start - offset = length-take-le (s.start - offset) (drop offset bytes) (omega (arith, length-drop offset bytes)) in
      let text : length (take (s.end - s.start) (drop s.start bytes)) ≡ s.end - s.start = length-take-le (s.end - s.start) (drop s.start bytes) (omega (arith, length-drop s.start bytes)) in
      same_span s (span_at (length (take offset bytes)) (piece_of bytes offset s)) (omega (arith, front, before)) (omega (arith, front, before, text))
