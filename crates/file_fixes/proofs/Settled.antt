-- A mended text has nothing left to mend.
use Rattle.std.proofs.Common.{◌≡◌, ℕ, ◌+◌, List, [], ◌∷◌, ◌++◌, Option, None, Some, is_some, unwrap_or, length, map, All, refl, sym, ap, ◌∙◌, subst, append_assoc, arith}
use Rattle.std.specs.Prelude.{count_by, if◌then◌else◌}
use Rattle.std.specs.List.{flat_map}
use Rattle.std.proofs.lemmas.List.Elements.{All-nil, All-cons, All-head, All-tail}
use Rattle.std.proofs.lemmas.List.Sums.{sum_by-cons}
use Rattle.spdx_requirement.specs.Rows.{Rows}
use Rattle.file_fixes.specs.declared.Span.{Span}
use Rattle.file_fixes.specs.Mending.{Marked, marked, Piece, span_at, Site, IsFixOfBytes, Mends, IsSettled, spans_from, old_piece, new_piece}

abbrev joined : List Piece → List ℕ → List ℕ
joined ps rest = flat_map (λ p. p.before ++ p.text) ps ++ rest

-- two lists that are alike from the front
append-same : (a b x y : List ℕ) → length a ≡ length b → a ++ x ≡ b ++ y → (a ≡ b) × (x ≡ y)
append-same [] [] x y l e = (refl, e)
append-same [] (q ∷ b) x y l e = absurd (omega arith)
append-same (p ∷ a) [] x y l e = absurd (omega arith)
append-same (p ∷ a) (q ∷ b) x y l e =
    let more : a ++ x ≡ b ++ y = cc in
    let rest = append-same a b x y (omega arith) more in
    let head : p ≡ q = cc in
    (ap (λ (n : ℕ). n ∷ a) head ∙ ap (λ (xs : List ℕ). q ∷ xs) rest.0, rest.1)

regrouped : (p : Piece) (ps : List Piece) (r : List ℕ) → joined (p ∷ ps) r ≡ p.before ++ (p.text ++ joined ps r)
regrouped p ps r =
    append_assoc (p.before ++ p.text) (flat_map (λ p. p.before ++ p.text) ps) r ∙ append_assoc p.before p.text (joined ps r)

-- a text is cut at its spans in one way
record Same (ps qs : List Piece) (r s : List ℕ) : Type 0 where
  pub pieces : ps ≡ qs
  pub rest : r ≡ s

same : (offset : ℕ) (ps qs : List Piece) (r s : List ℕ) → spans_from offset ps ≡ spans_from offset qs → joined ps r ≡ joined qs s → Same ps qs r s
same offset [] [] r s e f = record { pieces = refl; rest = f }
same offset [] (q ∷ qs) r s e f = absurd cc
same offset (p ∷ ps) [] r s e f = absurd cc
same offset (p ∷ ps) (q ∷ qs) r s e f =
    let head : span_at offset p ≡ span_at offset q = cc in
    let tail : spans_from (span_at offset p).end ps ≡ spans_from (span_at offset q).end qs = cc in
    let starts = ap (λ (x : Span). x.start) head in
    let ends = ap (λ (x : Span). x.end) head in
    let before = append-same p.before q.before (p.text ++ joined ps r) (q.text ++ joined qs s) (omega (arith, starts)) (sym (regrouped p ps r) ∙ f ∙ regrouped q qs s) in
    let text = append-same p.text q.text (joined ps r) (joined qs s) (omega (arith, starts, ends)) before.1 in
    let rest = same (span_at offset p).end ps qs r s (tail ∙ ap (λ (n : ℕ). spans_from n qs) (sym ends)) text.1 in
    record {
      pieces =
          ap (λ (xs : List ℕ). record { before = xs; text = p.text } ∷ ps) before.0
          ∙ ap (λ (xs : List ℕ). record { before = q.before; text = xs } ∷ ps) text.0
          ∙ ap (λ (xs : List Piece). q ∷ xs) rest.pieces;
      rest = rest.rest;
    }

-- a fix has no fix, nor has what has none
none_twice : (c : Rows) (text : List ℕ) (fix again : Option (List ℕ)) → IsFixOfBytes c text fix → IsFixOfBytes c (unwrap_or fix text) again → again ≡ None
none_twice c text fix None h k = refl
none_twice c text None (Some g) h k = absurd (h k.0 g k.1)
none_twice c text (Some f) (Some g) h k = absurd (k.1.refused h.1.mended)

abbrev Fixes : Rows → Site → Type 0
Fixes c s = IsFixOfBytes c s.text s.fix

no_more : (c : Rows) (xs ys : List Site) → map new_piece xs ≡ map old_piece ys → All (Fixes c) xs → All (Fixes c) ys → All (λ (s : Site). s.fix ≡ None) ys
no_more c [] [] e h k = All-nil (λ (s : Site). s.fix ≡ None)
no_more c [] (y ∷ ys) e h k = absurd cc
no_more c (x ∷ xs) [] e h k = absurd cc
no_more c (x ∷ xs) (y ∷ ys) e h k =
    let head : new_piece x ≡ old_piece y = cc in
    let text = ap (λ (p : Piece). p.text) head in
    let more : map new_piece xs ≡ map old_piece ys = cc in
    let here = none_twice c x.text x.fix y.fix (All-head (Fixes c) x xs h) (subst (λ (t : List ℕ). IsFixOfBytes c t y.fix) (sym text) (All-head (Fixes c) y ys k)) in
    All-cons (λ (s : Site). s.fix ≡ None) y ys here (no_more c xs ys more (All-tail (Fixes c) x xs h) (All-tail (Fixes c) y ys k))

kept : (ys : List Site) → All (λ (s : Site). s.fix ≡ None) ys → map new_piece ys ≡ map old_piece ys
kept [] h = refl
kept (y ∷ ys) h =
    let IsKept : Site → Type 0 = λ s. s.fix ≡ None in
    ap (λ (f : Option (List ℕ)). record { before = y.before; text = unwrap_or f y.text } ∷ map new_piece ys) (All-head IsKept y ys h)
    ∙ ap (λ (ps : List Piece). old_piece y ∷ ps) (kept ys (All-tail IsKept y ys h))

count_none : (ys : List Site) → All (λ (s : Site). s.fix ≡ None) ys → count_by (λ (s : Site). is_some s.fix) ys ≡ 0
count_none [] h = refl
count_none (y ∷ ys) h =
    let IsKept : Site → Type 0 = λ s. s.fix ≡ None in
    sum_by-cons (λ (s : Site). if is_some s.fix then 1 else 0) y ys
    ∙ ap (λ (f : Option (List ℕ)). (if is_some f then 1 else 0) + count_by (λ (s : Site). is_some s.fix) ys) (All-head IsKept y ys h)
    ∙ ap (λ (n : ℕ). 0 + n) (count_none ys (All-tail IsKept y ys h))

pub settled : (c : Rows) (old new : Marked) (count : ℕ) → Mends c old new count → IsSettled c new
settled c old new count first again n second =
    let ps = map new_piece first.sites in
    let qs = map old_piece second.sites in
    let e = same 0 ps qs first.rest second.rest (first.is.places ∙ sym second.was.places) (first.is.whole ∙ sym second.was.whole) in
    let none = no_more c first.sites second.sites e.pieces first.fixes second.fixes in
    let alike = kept second.sites none in
    let bytes = sym second.is.whole ∙ ap (λ (xs : List Piece). joined xs second.rest) alike ∙ second.was.whole in
    let spans = sym second.is.places ∙ ap (spans_from 0) alike ∙ second.was.places in (
      ap (λ (b : List ℕ). marked b again.spans) bytes ∙ ap (λ (s : List Span). marked new.bytes s) spans,
      second.counted ∙ count_none second.sites none,
    )
