-- A text whose literals are spelled anew, and its lexemes and tokens, whose texts are others.
use Rattle.std.proofs.Common.{◌≡◌, ℕ, suc, ◌+◌, false, cond, List, [], ◌∷◌, ◌++◌, length, drop, Option, Some, option_and_then}
use Rattle.std.specs.Prelude.{slice_range}
use Rattle.text_places.specs.declared.Span.{Span}
use Rattle.json.specs.Token as json
use Rattle.json.specs.Text.{content, plain}
use Rattle.json.specs.Lex.{Lexeme, token, begins_colon, punctuate, fresh}
use Rattle.json.specs.Json.{if_last, value}
use Rattle.serde_json.specs.Data.{Data}
use Rattle.json_places.specs.Literals.{quoted_len}
use Rattle.serde_json.specs.Read.{of_json, max_depth}

-- what a text becomes, by its number and by what it was
abbrev pub Change : Type 0
Change = ℕ → List ℕ → List ℕ

-- the lexemes, with the texts that are no keys changed, the first of which has this number
abbrev pub retext : Change → ℕ → List Lexeme → List Lexeme
retext f n [] = []
retext f n (token (json.string s) ∷ ls) =
    cond (begins_colon ls) (token (json.string s) ∷ retext f n ls) (token (json.string (f n s)) ∷ retext f (suc n) ls)
retext f n (l ∷ ls) = l ∷ retext f n ls

-- the texts that are no keys
abbrev pub texts_of : List Lexeme → List (List ℕ)
texts_of [] = []
texts_of (token (json.string s) ∷ ls) = cond (begins_colon ls) (texts_of ls) (s ∷ texts_of ls)
texts_of (l ∷ ls) = texts_of ls

-- the document that the lexemes are read as
abbrev pub read_lexemes : List Lexeme → Option Data
read_lexemes ls = option_and_then of_json (option_and_then (λ p. if_last p.0 p.1) (value max_depth (punctuate fresh ls)))

-- the bytes are the literal of the text, whatever stands behind it: the scan ends at its last quote
pub record IsText (literal text : List ℕ) : Type 0 where
  pub inner : List ℕ
  pub quoted : literal ≡ 34 ∷ (inner ++ 34 ∷ [])
  pub is : (behind : List ℕ) → content plain (inner ++ 34 ∷ behind) ≡ Some text
  pub ends : (behind : List ℕ) → quoted_len false (inner ++ 34 ∷ behind) ≡ length inner + 1

-- the text from an offset on, with other literals in the place of the spans, the first of which has this number
abbrev pub respelled : (ℕ → Span → List ℕ) → ℕ → ℕ → List ℕ → List Span → List ℕ
respelled g n offset text [] = drop offset text
respelled g n offset text (span ∷ spans) = slice_range text offset span.start ++ (g n span ++ respelled g (n + 1) span.end text spans)
