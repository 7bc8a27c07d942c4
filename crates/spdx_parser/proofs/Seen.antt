-- What the definitions say of words with one more behind them, and of their parentheses.
use Rattle.std.proofs.Common.{◌≡◌, ℕ, zero, suc, ◌+◌, ◌<◌, ◌≤◌, Bool, true, false, List, [], ◌∷◌, ◌++◌, length, Option, Some, None, refl, sym, ◌∙◌, ap, subst, arith, append_assoc, append-nil, ◌⊎◌, inl, inr}
use Rattle.std.specs.Prelude.{if◌then◌else◌, ◌==◌}
use Rattle.std.specs.List.{fold}
use Rattle.std.proofs.lemmas.List.{map-append}
use Rattle.std.proofs.lemmas.Bool.Decides.{eqb_tells}
use Rattle.spdx_lexer.specs.Words.{Word, OpenParen, CloseParen, Span, Placed, words}
use Rattle.spdx_parser.specs.Last.{Last, next_last, is_license}
use Rattle.spdx_parser.specs.Spans.{license_spans}
use Rattle.spdx_parser.specs.Faults.{opens, closes, IsLastOpen}
use Rattle.spdx_parser.proofs.Shown.{add_span, but_first, move_places}

-- ---- the last word and the licences

pub spans_more : (last : Last) (read : List Placed) (w : Word) (s : Span) → license_spans last (read ++ (w, s) ∷ []) ≡ add_span (is_license (fold next_last last (words read)) w) (license_spans last read) s
spans_more last [] w s = one (is_license last w)
  where
    one : (b : Bool) → (if b then s ∷ [] else []) ≡ add_span b [] s
    one true = refl
    one false = refl
spans_more last (p ∷ read) w s = first (is_license last p.0) (is_license (fold next_last (next_last last p.0) (words read)) w) _ _ (spans_more (next_last last p.0) read w s)
  where
    first : (b d : Bool) (xs ys : List Span) → xs ≡ add_span d ys s → (if b then p.1 ∷ xs else xs) ≡ add_span d (if b then p.1 ∷ ys else ys) s
    first true true xs ys e = ap (λ (zs : List Span). p.1 ∷ zs) e
    first true false xs ys e = ap (λ (zs : List Span). p.1 ∷ zs) e
    first false d xs ys e = e

-- ---- parentheses

-- how many parentheses are open, from d on; none where one closes that is not open
abbrev pub depth : ℕ → List Word → Option ℕ
depth d [] = Some d
depth d (OpenParen ∷ ws) = depth (suc d) ws
depth zero (CloseParen ∷ ws) = None
depth (suc d) (CloseParen ∷ ws) = depth d ws
depth d (_ ∷ ws) = depth d ws

-- words whose parentheses are in pairs
abbrev Even : List Word → Type 0
Even ws = depth 0 ws ≡ Some 0

pub depth_on : (xs ys : List Word) (d e : ℕ) → depth d xs ≡ Some e → depth d (xs ++ ys) ≡ depth e ys
depth_on [] ys d e h = let same : d ≡ e = cc in ap (λ k. depth k ys) same
depth_on (OpenParen ∷ xs) ys d e h = depth_on xs ys (suc d) e h
depth_on (CloseParen ∷ xs) ys zero e h = absurd cc
depth_on (CloseParen ∷ xs) ys (suc d) e h = depth_on xs ys d e h
depth_on (_ ∷ xs) ys d e h = depth_on xs ys d e h

pub depth_front : (xs ys : List Word) (d e : ℕ) → depth d (xs ++ ys) ≡ Some e → (k : ℕ) × (depth d xs ≡ Some k) × (depth k ys ≡ Some e)
depth_front [] ys d e h = (d, refl, h)
depth_front (OpenParen ∷ xs) ys d e h = depth_front xs ys (suc d) e h
depth_front (CloseParen ∷ xs) ys zero e h = absurd cc
depth_front (CloseParen ∷ xs) ys (suc d) e h = depth_front xs ys d e h
depth_front (_ ∷ xs) ys d e h = depth_front xs ys d e h

-- one more that is open all along
pub deeper : (ws : List Word) (d e : ℕ) → depth d ws ≡ Some e → depth (suc d) ws ≡ Some (suc e)
deeper [] d e h = let same : d ≡ e = cc in ap (λ k. Some (suc k)) same
deeper (OpenParen ∷ ws) d e h = deeper ws (suc d) e h
deeper (CloseParen ∷ ws) zero e h = absurd cc
deeper (CloseParen ∷ ws) (suc d) e h = deeper ws d e h
deeper (_ ∷ ws) d e h = deeper ws d e h

pub depth_count : (ws : List Word) (d e : ℕ) → depth d ws ≡ Some e → d + opens ws ≡ e + closes ws
depth_count [] d e h = let same : d ≡ e = cc in omega arith
depth_count (OpenParen ∷ ws) d e h = let more = depth_count ws (suc d) e h in omega arith
depth_count (CloseParen ∷ ws) zero e h = absurd cc
depth_count (CloseParen ∷ ws) (suc d) e h = let more = depth_count ws d e h in omega arith
depth_count (_ ∷ ws) d e h = depth_count ws d e h

-- the words have these parentheses open, the last one first
pub data Nest : List Placed → List Span → Type 0 where
  whole : {read : List Placed} → Even (words read) → Nest read []
  inside : (before behind : List Placed) {read : List Placed} (s : Span) (places : List Span) {all : List Span} → Nest before places → Even (words behind) → read ≡ before ++ (OpenParen, s) ∷ behind → all ≡ s ∷ places → Nest read all

pub words_on : (xs ys : List Placed) → words (xs ++ ys) ≡ words xs ++ words ys
words_on xs ys = map-append (λ (p : Placed). p.0) xs ys

even_on : (xs ys : List Placed) → Even (words xs) → Even (words ys) → Even (words (xs ++ ys))
even_on xs ys a b = ap (depth 0) (words_on xs ys) ∙ depth_on (words xs) (words ys) 0 0 a ∙ b

-- pairs change nothing
nest_on : (read more : List Placed) (places : List Span) → Nest read places → Even (words more) → Nest (read ++ more) places
nest_on read more places (whole e) m = whole (even_on read more e m)
nest_on read more all (inside before behind s places n e cut last) m =
    inside before (behind ++ more) s places n (even_on behind more e m) (ap (λ r. r ++ more) cut ∙ append_assoc before ((OpenParen, s) ∷ behind) more) last

-- a pair
pair : (behind : List Placed) (s t : Span) → Even (words behind) → Even (words ((OpenParen, s) ∷ (behind ++ (CloseParen, t) ∷ [])))
pair behind s t e = ap (depth 1) (words_on behind ((CloseParen, t) ∷ [])) ∙ depth_on (words behind) (CloseParen ∷ []) 1 1 (deeper (words behind) 0 0 e)

close_nest : (read : List Placed) (places : List Span) (t : Span) → Nest read places → 0 < length places → Nest (read ++ (CloseParen, t) ∷ []) (but_first places)
close_nest read places t (whole e) lt = absurd (omega arith)
close_nest read all t (inside before behind s places n e cut last) lt =
    let around = nest_on before ((OpenParen, s) ∷ (behind ++ (CloseParen, t) ∷ [])) places n (pair behind s t e) in
    let flat : before ++ (OpenParen, s) ∷ (behind ++ (CloseParen, t) ∷ []) ≡ read ++ (CloseParen, t) ∷ [] = sym (append_assoc before ((OpenParen, s) ∷ behind) ((CloseParen, t) ∷ [])) ∙ ap (λ r. r ++ (CloseParen, t) ∷ []) (sym cut) in
    subst (Nest (read ++ (CloseParen, t) ∷ [])) (sym (ap but_first last)) (subst (λ r. Nest r places) flat around)

-- one more word
pub nest_more : (read : List Placed) (places : List Span) (w : Word) (s : Span) → Nest read places → (w ≡ CloseParen → 0 < length places) → Nest (read ++ (w, s) ∷ []) (move_places w s places)
nest_more read places OpenParen s n h = inside read [] s places n refl refl refl
nest_more read places CloseParen s n h = close_nest read places s n (h refl)
nest_more read places w s n h = nest_on read ((w, s) ∷ []) places n refl

pub opens_on : (xs ys : List Word) → opens (xs ++ ys) ≡ opens xs + opens ys
opens_on [] ys = omega arith
opens_on (OpenParen ∷ xs) ys = let more = opens_on xs ys in omega arith
opens_on (_ ∷ xs) ys = opens_on xs ys

pub opens_bound : (ws : List Word) → opens ws ≤ length ws
opens_bound [] = omega arith
opens_bound (OpenParen ∷ ws) = let more = opens_bound ws in omega arith
opens_bound (_ ∷ ws) = let more = opens_bound ws in omega arith

pub closes_on : (xs ys : List Word) → closes (xs ++ ys) ≡ closes xs + closes ys
closes_on [] ys = omega arith
closes_on (CloseParen ∷ xs) ys = let more = closes_on xs ys in omega arith
closes_on (_ ∷ xs) ys = closes_on xs ys

-- as many are open as have a place
pub nest_count : (read : List Placed) (places : List Span) → Nest read places → opens (words read) ≡ closes (words read) + length places
nest_count read places (whole e) = let n = depth_count (words read) 0 0 e in omega arith
nest_count read all (inside before behind s places n e cut last) =
    let around = nest_count before places n in
    let within = depth_count (words behind) 0 0 e in
    let flat = ap words cut ∙ words_on before ((OpenParen, s) ∷ behind) in
    let o = ap opens flat ∙ opens_on (words before) (OpenParen ∷ words behind) in
    let k = ap closes flat ∙ closes_on (words before) (OpenParen ∷ words behind) in
    let l = ap length last in
    omega arith

same_test : (a b n : ℕ) → a ≡ b + n → (a == b) ≡ (n == 0)
same_test a b n e = test (eqb_tells a b) (eqb_tells n 0)
  where
    test : ((a == b) ≡ true) × (a ≡ b) ⊎ ((a == b) ≡ false) × (a ≡ b → ⊥) → ((n == 0) ≡ true) × (n ≡ 0) ⊎ ((n == 0) ≡ false) × (n ≡ 0 → ⊥) → (a == b) ≡ (n == 0)
    test (inl x) (inl y) = x.0 ∙ sym y.0
    test (inl x) (inr y) = let same = x.1 in absurd (y.1 (omega arith))
    test (inr x) (inl y) = let none = y.1 in absurd (x.1 (omega arith))
    test (inr x) (inr y) = x.0 ∙ sym y.0

pub none_open_is : (read : List Placed) (places : List Span) → Nest read places → (opens (words read) == closes (words read)) ≡ (length places == 0)
none_open_is read places n = same_test (opens (words read)) (closes (words read)) (length places) (nest_count read places n)

-- the first of them is the last `(` that is left open
pub last_open : (read : List Placed) (places : List Span) (s : Span) → Nest read (s ∷ places) → IsLastOpen read s
last_open read places s n = go (s ∷ places) n refl
  where
    go : (all : List Span) → Nest read all → all ≡ s ∷ places → IsLastOpen read s
    go all (whole e) is = absurd cc
    go all (inside before behind t others n e cut last) is =
        let both : t ∷ others ≡ s ∷ places = sym last ∙ is in
        let same : t ≡ s = cc in
        record {
          before = before;
          behind = behind;
          cut = cut ∙ ap (λ (x : Span). before ++ (OpenParen, x) ∷ behind) same;
          left_open = λ front more flat. let d = depth_front front more 0 0 (sym (ap (depth 0) flat) ∙ e) in let count = depth_count front 0 d.0 d.1 in omega arith;
          last = λ xs ys other flat left.
              let d = depth_front (words xs) (OpenParen ∷ words ys) 0 0 (sym (ap (depth 0) (ap words flat ∙ words_on xs ((OpenParen, other) ∷ ys))) ∙ e) in
              let count = depth_count (words ys) (suc d.0) 0 d.2 in
              let more = left (words ys) [] (sym (append-nil (words ys))) in
              absurd (omega arith);
        }
