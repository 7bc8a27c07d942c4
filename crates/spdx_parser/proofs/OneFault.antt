-- A text has one fault at most.
use Rattle.std.proofs.Common.{◌≡◌, ℕ, true, false, List, [], ◌∷◌, ◌++◌, length, map, Ok, Err, refl, sym, ◌∙◌, ap, subst}
use Rattle.std.specs.Prelude.{◌==◌}
use Rattle.spdx_requirement.specs.Rows.{Rows}
use Rattle.spdx_lexer.specs.declared.token.ParseMode.{ParseMode}
use Rattle.spdx_lexer.specs.Words.{OpenParen, Fault, Unexpected, Span, span, Item, Placed, words}
use Rattle.spdx_lexer.specs.Reading.{reading}
use Rattle.spdx_parser.specs.Last.{last_of, is_closing, terms}
use Rattle.spdx_parser.specs.Grammar.{IsViable}
use Rattle.spdx_parser.specs.Faults.{opens, closes, fault_behind, IsLastOpen, IsEndFault, empty, short, unclosed, IsFaultOf, at_word, at_place, at_end}
use Rattle.spdx_parser.proofs.Theorem.{viable_front}
use Rattle.spdx_parser.proofs.Loop.{goes_on, no_fault_in, same_words}

-- two cuts of one list are at one place, or one of them is before the other
data Cuts {A : Type 0} (xs : List A) (x : A) (more : List A) (ys : List A) (y : A) (rest : List A) : Type 0 where
  together : xs ≡ ys → x ≡ y → Cuts xs x more ys y rest
  before : (zs : List A) → ys ≡ xs ++ x ∷ zs → more ≡ zs ++ y ∷ rest → Cuts xs x more ys y rest
  behind : (zs : List A) → xs ≡ ys ++ y ∷ zs → rest ≡ zs ++ x ∷ more → Cuts xs x more ys y rest

cuts_more : {A : Type 0} (u v : A) {xs ys : List A} {x y : A} {more rest : List A} → u ≡ v → Cuts xs x more ys y rest → Cuts (u ∷ xs) x more (v ∷ ys) y rest
cuts_more u v {xs = xs} same (together e f) = together (ap (λ z. z ∷ xs) same ∙ ap (λ zs. v ∷ zs) e) f
cuts_more u v {ys = ys} same (before zs e f) = before zs (ap (λ z. z ∷ ys) (sym same) ∙ ap (λ r. u ∷ r) e) f
cuts_more u v {xs = xs} same (behind zs e f) = behind zs (ap (λ z. z ∷ xs) same ∙ ap (λ r. v ∷ r) e) f

cuts : {A : Type 0} (xs ys : List A) (x y : A) (more rest : List A) → xs ++ x ∷ more ≡ ys ++ y ∷ rest → Cuts xs x more ys y rest
cuts [] [] x y more rest e = together refl cc
cuts [] (v ∷ ys) x y more rest e =
    let same : v ≡ x = cc in
    before ys (ap (λ z. z ∷ ys) same) cc
cuts (u ∷ xs) [] x y more rest e =
    let same : u ≡ y = cc in
    behind xs (ap (λ z. z ∷ xs) same) cc
cuts (u ∷ xs) (v ∷ ys) x y more rest e =
    let same : u ≡ v = cc in
    let tails : xs ++ x ∷ more ≡ ys ++ y ∷ rest = cc in
    cuts_more u v same (cuts xs ys x y more rest tails)

-- ---- the end

pub one_open : (read : List Placed) (s t : Span) → IsLastOpen read s → IsLastOpen read t → s ≡ t
one_open read s t h k = go (cuts h.before k.before (OpenParen, s) (OpenParen, t) h.behind k.behind (sym h.cut ∙ k.cut))
  where
    go : Cuts h.before (OpenParen, s) h.behind k.before (OpenParen, t) k.behind → s ≡ t
    go (together e f) = ap (λ (p : Placed). p.1) f
    go (before zs e f) = absurd (h.last zs k.behind t f k.left_open)
    go (behind zs e f) = absurd (k.last zs h.behind s f h.left_open)

abbrev Closes : List Placed → Type 0
Closes read = is_closing (last_of (words read)) ≡ true

ends_closing : (read other : List Placed) → read ≡ other → is_closing (last_of (words read)) ≡ false → Closes other → ⊥
ends_closing read other same e h = let no : is_closing (last_of (words other)) ≡ false = subst (λ xs. is_closing (last_of (words xs)) ≡ false) same e in cc

abbrev Same : Fault → Span → Fault → Span → Type 0
Same f s g t = ◌≡◌ {A = Fault × Span} (f, s) (g, t)

one_end : (len : ℕ) (read other : List Placed) (f g : Fault) (s t : Span) → read ≡ other → IsEndFault len read f s → IsEndFault len other g t → Same f s g t
one_end len _ _ _ _ _ _ same empty empty = refl
one_end len _ _ _ _ _ _ same empty (short e) = absurd cc
one_end len _ other _ _ _ _ same empty (unclosed e h) = absurd (ends_closing [] other same refl e)
one_end len _ _ _ _ _ _ same (short e) empty = absurd cc
one_end len xs ys _ _ _ _ same (short e) (short k) = ap (λ (read : List Placed). let x : Fault × Span = (Unexpected (terms (last_of (words read))), span len 0) in x) same
one_end len xs ys _ _ _ _ same (short e) (unclosed k h) = absurd (ends_closing xs ys same e k)
one_end len xs _ _ _ _ _ same (unclosed e h) empty = absurd (ends_closing [] xs (sym same) refl e)
one_end len xs ys _ _ _ _ same (unclosed e h) (short k) = absurd (ends_closing ys xs (sym same) k e)
one_end len xs ys f g s t same (unclosed e h) (unclosed k j) = ap (λ (x : Span). let y : Fault × Span = (f, x) in y) (one_open ys s t (subst (λ read. IsLastOpen read s) same h) j)

-- ---- the whole text

module _ (c : Rows) (m : ParseMode) where
  -- behind these words no expression goes on with this item
  abbrev Stops : List Placed → Item → Type 0
  Stops read (Ok p) = IsViable c m (words read ++ p.0 ∷ []) → ⊥
  Stops read (Err x) = Unit {0}

  abbrev fault_at : List Placed → Item → Fault × Span
  fault_at read (Ok p) = (fault_behind m (last_of (words read)) (opens (words read) == closes (words read)) p.0, p.1)
  fault_at read (Err x) = x

  stops : (all read : List Placed) (x : Item) (more : List Item) → Stops read x → map Ok all ≡ map Ok read ++ x ∷ more → IsViable c m (words all) → ⊥
  stops all read (Ok p) more bad e v =
      let rest = goes_on all read p more e in bad (viable_front c m (words read ++ p.0 ∷ []) rest.0 (subst (λ ws. IsViable c m ws) rest.1 v))
  stops all read (Err x) more bad e v = no_fault_in all read x more e

  one_stop : (read other : List Placed) (x y : Item) (more rest : List Item) → map Ok read ++ x ∷ more ≡ map Ok other ++ y ∷ rest → IsViable c m (words read) → IsViable c m (words other) → Stops read x → Stops other y → fault_at read x ≡ fault_at other y
  one_stop read other x y more rest e v u bad worse = go (cuts (map Ok read) (map Ok other) x y more rest e)
    where
      go : Cuts (map Ok read) x more (map Ok other) y rest → fault_at read x ≡ fault_at other y
      go (together same at) = ap (λ (xs : List Placed). fault_at xs x) (same_words read other same) ∙ ap (λ (i : Item). fault_at other i) at
      go (before zs same at) = absurd (stops other read x zs bad same u)
      go (behind zs same at) = absurd (stops read other y zs worse same v)

  module _ (text : List ℕ) where
    stop_only : (read : List Placed) (x : Item) (more : List Item) → reading c m 0 text ≡ map Ok read ++ x ∷ more → IsViable c m (words read) → Stops read x → (g : Fault) (t : Span) → IsFaultOf c m text g t → fault_at read x ≡ (g, t)
    stop_only read x more e v bad _ _ (at_word other w {s = s} rest k u worse) = one_stop read other x (Ok (w, s)) more rest (sym e ∙ k) v u bad worse
    stop_only read x more e v bad _ _ (at_place other {f = f} {s = s} rest k u) = one_stop read other x (Err (f, s)) more rest (sym e ∙ k) v u bad tt
    stop_only read x more e v bad _ _ (at_end all k u none end) = absurd (stops all read x more bad (sym k ∙ e) u)

    end_only : (read : List Placed) (f g : Fault) (s t : Span) → reading c m 0 text ≡ map Ok read → IsViable c m (words read) → IsEndFault (length text) read f s → IsFaultOf c m text g t → Same f s g t
    end_only read f _ s _ e v end (at_word other w {s = at} rest k u bad) = absurd (stops read other (Ok (w, at)) rest bad (sym e ∙ k) v)
    end_only read f _ s _ e v end (at_place other {f = h} {s = at} rest k u) = absurd (stops read other (Err (h, at)) rest tt (sym e ∙ k) v)
    end_only read f g s t e v end (at_end other k u none other_end) = one_end (length text) read other f g s t (same_words read other (sym e ∙ k)) end other_end

    pub one_fault : (f g : Fault) (s t : Span) → IsFaultOf c m text f s → IsFaultOf c m text g t → Same f s g t
    one_fault _ g _ t (at_word read w {s = s} more e v bad) h = stop_only read (Ok (w, s)) more e v bad g t h
    one_fault _ g _ t (at_place read {f = f} {s = s} more e v) h = stop_only read (Err (f, s)) more e v tt g t h
    one_fault f g s t (at_end read e v none end) h = end_only read f g s t e v end h
