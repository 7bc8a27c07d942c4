-- Lines of words, and the words of lines.
use Rattle.std.proofs.Common.{◌≡◌, ℕ, Bool, true, false, cond, List, [], ◌∷◌, ◌++◌, refl, sym, ap, ◌∙◌, append_assoc, flat_map}
use Rattle.std.specs.Prelude.{filter}
use Rattle.std.specs.Char.{is_ascii_whitespace}
use Rattle.std.specs.List.{AllByRecursion, slice_split, onto_first}
use Rattle.std.proofs.lemmas.List.Elements.{All-from_recursion}
use Rattle.std.proofs.lemmas.List.Splits.{slice_split_at}
use Rattle.std.proofs.lemmas.Slice.Eq.{bytes_eq-Decides}
use Rattle.notice_texts.specs.Words.{is_some_word, words, line, line_of, lines_of_words, SameWords}

one_so : (piece : List ℕ) (pieces : List (List ℕ)) (b : Bool) → is_some_word piece ≡ b → line_of piece ++ flat_map line (filter is_some_word pieces) ≡ flat_map line (cond b (piece ∷ filter is_some_word pieces) (filter is_some_word pieces))
one_so piece pieces true e = rw e refl
one_so piece pieces false e = rw e refl

pub lines_of_some : (pieces : List (List ℕ)) → flat_map line_of pieces ≡ flat_map line (filter is_some_word pieces)
lines_of_some [] = refl
lines_of_some (p ∷ ps) = ap (λ ls. line_of p ++ ls) (lines_of_some ps) ∙ one_so p ps (is_some_word p) refl

-- ---- the words of lines of words

-- a part without white space
abbrev IsDark : List ℕ → Type 0
IsDark part = AllByRecursion (λ (b : ℕ). is_ascii_whitespace b ≡ false) part

abbrev AreDark : List (List ℕ) → Type 0
AreDark parts = AllByRecursion IsDark parts

onto_dark : (b : ℕ) (parts : List (List ℕ)) → is_ascii_whitespace b ≡ false → AreDark parts → AreDark (onto_first b parts)
onto_dark b [] e h = ((e, tt), tt)
onto_dark b (part ∷ parts) e h = ((e, h.0), h.1)

split_dark_so : (b : ℕ) (parts : List (List ℕ)) (c : Bool) → is_ascii_whitespace b ≡ c → AreDark parts → AreDark (cond c ([] ∷ parts) (onto_first b parts))
split_dark_so b parts true e h = (tt, h)
split_dark_so b parts false e h = onto_dark b parts e h

split_dark : (bytes : List ℕ) → AreDark (slice_split is_ascii_whitespace bytes)
split_dark [] = (tt, tt)
split_dark (b ∷ bytes) = split_dark_so b (slice_split is_ascii_whitespace bytes) (is_ascii_whitespace b) refl (split_dark bytes)

-- a part with something and without white space
abbrev IsWord : List ℕ → Type 0
IsWord part = (is_some_word part ≡ true) × IsDark part

abbrev AreWords : List (List ℕ) → Type 0
AreWords parts = AllByRecursion IsWord parts

kept_words_so : (part : List ℕ) (parts : List (List ℕ)) (c : Bool) → is_some_word part ≡ c → IsDark part → AreWords parts → AreWords (cond c (part ∷ parts) parts)
kept_words_so part parts true e h k = ((e, h), k)
kept_words_so part parts false e h k = k

kept_words : (parts : List (List ℕ)) → AreDark parts → AreWords (filter is_some_word parts)
kept_words [] h = tt
kept_words (part ∷ parts) h = kept_words_so part (filter is_some_word parts) (is_some_word part) refl h.0 (kept_words parts h.1)

first_word : (word rest : List ℕ) → IsWord word → words ((word ++ 10 ∷ []) ++ rest) ≡ word ∷ words rest
first_word word rest h =
    ap words (append_assoc word (10 ∷ []) rest)
    ∙ ap (filter is_some_word) (slice_split_at is_ascii_whitespace word 10 rest (All-from_recursion (λ (b : ℕ). is_ascii_whitespace b ≡ false) word h.1) refl)
    ∙ ap (λ (c : Bool). cond c (word ∷ words rest) (words rest)) h.0

words_of_lines : (ws : List (List ℕ)) → AreWords ws → words (flat_map line ws) ≡ ws
words_of_lines [] h = refl
words_of_lines (w ∷ ws) h = first_word w (flat_map line ws) h.0 ∙ ap (λ (vs : List (List ℕ)). w ∷ vs) (words_of_lines ws h.1)

-- a text has the words of its words' lines
kept : (bytes : List ℕ) → words (lines_of_words bytes) ≡ words bytes
kept bytes = words_of_lines (words bytes) (kept_words (slice_split is_ascii_whitespace bytes) (split_dark bytes))

pub same_words : SameWords
same_words a b = (
  λ h. sym (kept a) ∙ ap words ((bytes_eq-Decides (lines_of_words a) (lines_of_words b)).0 h) ∙ kept b,
  λ h. (bytes_eq-Decides (lines_of_words a) (lines_of_words b)).1 (ap (flat_map line) h),
)
