-- The expressions of a text that is cut at its spans.
use Rattle.std.proofs.Common.{◌≡◌, ℕ, ◌+◌, ◌-◌, List, [], ◌∷◌, ◌++◌, length, length-append, map, take, drop, refl, sym, ap, ◌∙◌, append_assoc, arith}
use Rattle.std.specs.List.{flat_map}
use Rattle.std.proofs.lemmas.List.{take_at, drop_at}
use Rattle.file_fixes.specs.Mending.{Marked, Piece, span_at, spans_from, IsCutAtSpans}
use Rattle.file_fixes.specs.Fixing.{text_at, texts_in}

abbrev joined : List Piece → List ℕ → List ℕ
joined ps rest = flat_map (λ p. p.before ++ p.text) ps ++ rest

here : (bytes front behind : List ℕ) (p : Piece) → bytes ≡ front ++ (p.before ++ (p.text ++ behind)) → text_at bytes (span_at (length front) p) ≡ p.text
here bytes front behind p e =
    let n : ℕ = length front + length p.before in
    let size : (n + length p.text) - n ≡ length p.text = omega arith in
    let split : bytes ≡ (front ++ p.before) ++ (p.text ++ behind) = e ∙ sym (append_assoc front p.before (p.text ++ behind)) in
    let start : drop n bytes ≡ p.text ++ behind = ap (drop n) split ∙ drop_at (front ++ p.before) (p.text ++ behind) n (length-append front p.before) in
    ap (λ (k : ℕ). take k (drop n bytes)) size ∙ ap (take (length p.text)) start ∙ take_at p.text behind (length p.text) refl

texts : (bytes front : List ℕ) (ps : List Piece) (rest : List ℕ) → bytes ≡ front ++ joined ps rest → map (text_at bytes) (spans_from (length front) ps) ≡ map (λ (p : Piece). p.text) ps
texts bytes front [] rest e = refl
texts bytes front (p ∷ ps) rest e =
    let first = p.before ++ p.text in
    let behind = joined ps rest in
    let end : length (front ++ first) ≡ (span_at (length front) p).end = omega (arith, length-append front first, length-append p.before p.text) in
    let regrouped : bytes ≡ front ++ (first ++ behind) = e ∙ ap (λ (xs : List ℕ). front ++ xs) (append_assoc first (flat_map (λ p. p.before ++ p.text) ps) rest) in
    let split : bytes ≡ front ++ (p.before ++ (p.text ++ behind)) = regrouped ∙ ap (λ (xs : List ℕ). front ++ xs) (append_assoc p.before p.text behind) in
    let more : bytes ≡ (front ++ first) ++ behind = regrouped ∙ sym (append_assoc front first behind) in
    ap (λ (t : List ℕ). t ∷ map (text_at bytes) (spans_from (span_at (length front) p).end ps)) (here bytes front behind p split)
    ∙ ap (λ (ts : List (List ℕ)). p.text ∷ ts) (ap (λ (n : ℕ). map (text_at bytes) (spans_from n ps)) (sym end) ∙ texts bytes (front ++ first) ps rest more)

pub texts_in-cut : (text : Marked) (ps : List Piece) (rest : List ℕ) → IsCutAtSpans text ps rest → texts_in text ≡ map (λ (p : Piece). p.text) ps
texts_in-cut text ps rest h =
    ap (map (text_at text.bytes)) (sym h.places) ∙ texts text.bytes [] ps rest (sym h.whole)
