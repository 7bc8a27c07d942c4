-- The fault of a text that means no tree.
use Rattle.std.specs.Prelude.{◌≡◌, ℕ, ◌+◌, ◌<◌, Bool, true, false, ◌==◌, ◌&&◌, List, [], ◌∷◌, ◌++◌, length, map, Ok, Err, if◌then◌else◌}
use Rattle.spdx_requirement.specs.Rows.{Rows, LicenseRow}
use Rattle.spdx_requirement.specs.Flags.{is_gnu}
use Rattle.spdx_requirement.specs.Endings.{ends_or_later}
use Rattle.spdx_lexer.specs.declared.token.ParseMode.{ParseMode}
use Rattle.spdx_lexer.specs.Words.{Word, Spdx, Plus, OpenParen, CloseParen, Fault, UnknownLicense, Unexpected, GnuNoPlus, GnuPlusWithSuffix, DeprecatedLicenseId, UnopenedParens, UnclosedParens, Empty, Span, span, Item, Placed, words}
use Rattle.spdx_lexer.specs.Reading.{reading}
use Rattle.spdx_parser.specs.Last.{Last, Due, Listed, last_of, is_closing, terms}
use Rattle.spdx_parser.specs.Tree.{Tree}
use Rattle.spdx_parser.specs.Grammar.{may_stand, Derives, IsViable}

-- how many `(` there are
abbrev pub opens : List Word → ℕ
opens [] = 0
opens (OpenParen ∷ ws) = opens ws + 1
opens (w ∷ ws) = opens ws

-- how many `)` there are
abbrev pub closes : List Word → ℕ
closes [] = 0
closes (CloseParen ∷ ws) = closes ws + 1
closes (w ∷ ws) = closes ws

-- a `+` behind a GNU licence: the mode has to allow it, the name must not end in `-or-later`, and
-- the licence that it would mean has to be listed
abbrev pub plus_fault : ParseMode → LicenseRow → Fault
plus_fault m r =
    if m.allow_postfix_plus_on_gpl
    then (if ends_or_later r.name then GnuPlusWithSuffix else UnknownLicense) else GnuNoPlus

-- a word that no expression has behind such a one, `none` being whether no parenthesis is open
abbrev pub fault_behind : ParseMode → Last → Bool → Word → Fault
fault_behind m Due none (Spdx r) =
    if may_stand m r then Unexpected (terms Due) else DeprecatedLicenseId
fault_behind m (Listed r) none Plus =
    if is_gnu r.flags then plus_fault m r else Unexpected (terms (Listed r))
fault_behind m last none CloseParen =
    if is_closing last && none then UnopenedParens else Unexpected (terms last)
fault_behind m last none w = Unexpected (terms last)

-- a `(` is left open if every segment that begins at it has more `(` than `)`
abbrev pub IsLeftOpen : List Word → Type 0
IsLeftOpen behind =
    (front more : List Word) → behind ≡ front ++ more →
    closes (OpenParen ∷ front) < opens (OpenParen ∷ front)

-- the last `(` that is left open stands there
pub record IsLastOpen (read : List Placed) (s : Span) : Type 0 where
  pub before : List Placed
  pub behind : List Placed
  pub cut : read ≡ before ++ (OpenParen, s) ∷ behind
  pub left_open : IsLeftOpen (words behind)
  pub last : (xs ys : List Placed) (other : Span) → behind ≡ xs ++ (OpenParen, other) ∷ ys →
      IsLeftOpen (words ys) → ⊥

-- the fault of a text of so many bytes that ends behind these words too soon
pub data IsEndFault (len : ℕ) : List Placed → Fault → Span → Type 0 where
  empty : IsEndFault len [] Empty (span 0 len)
  short : {p : Placed} {read : List Placed} → is_closing (last_of (words (p ∷ read))) ≡ false →
      IsEndFault len (p ∷ read) (Unexpected (terms (last_of (words (p ∷ read))))) (span len 0)
  unclosed : {read : List Placed} {s : Span} → is_closing (last_of (words read)) ≡ true →
      IsLastOpen read s → IsEndFault len read UnclosedParens s

-- The fault of a text: that of the first word such that the words up to and with it begin no
-- expression; where there is none, that of the first place that is no word; where there is none,
-- that of the end. No parenthesis is open behind words that close as many as they open.
pub data IsFaultOf (c : Rows) (m : ParseMode) (text : List ℕ) : Fault → Span → Type 0 where
  at_word : (read : List Placed) (w : Word) {s : Span} (more : List Item) →
      reading c m 0 text ≡ map Ok read ++ Ok (w, s) ∷ more → IsViable c m (words read) →
      (IsViable c m (words read ++ w ∷ []) → ⊥) →
      IsFaultOf c m text (fault_behind m (last_of (words read))
      (opens (words read) == closes (words read)) w) s
  at_place : (read : List Placed) {f : Fault} {s : Span} (more : List Item) →
      reading c m 0 text ≡ map Ok read ++ Err (f, s) ∷ more → IsViable c m (words read) →
      IsFaultOf c m text f s
  at_end : (read : List Placed) {f : Fault} {s : Span} → reading c m 0 text ≡ map Ok read →
      IsViable c m (words read) → ((t : Tree) → Derives c m (words read) t → ⊥) →
      IsEndFault (length text) read f s → IsFaultOf c m text f s

-- the text has no tree: it has a place that is no word, or its words mean none
abbrev pub HasNoTree : Rows → ParseMode → List ℕ → Type 0
HasNoTree c m text =
    (read : List Placed) (t : Tree) → reading c m 0 text ≡ map Ok read →
    Derives c m (words read) t → ⊥
