-- What is written for the lines of an input, and what is told of those that have no meaning text.
use Rattle.std.specs.Prelude.{◌≡◌, ℕ, ◌+◌, ◌-◌, Bool, true, false, List, [], ◌∷◌, ◌++◌, All, Result, Ok, Err, length, take, drop, map, flat_map, codes, string_bytes}
use Rattle.std.specs.List.{prefix_len, suffix_len}
use Rattle.std.specs.Char.{is_ascii_whitespace}
use Rattle.std.specs.Str.{is_utf8}
use Rattle.line_engine.specs.Lines.{lines_of}
use Rattle.spdx_requirement.specs.Rows.{Rows}
use Rattle.spdx_lexer.specs.declared.token.ParseMode.{ParseMode}
use Rattle.spdx_meaning.specs.Reading.{IsMeaningOf, IsMeaningless}
use Rattle.spdx_meaning.specs.declared.reading.Unmeant as compare
use Rattle.meaning_program.specs.Reading.{mode_by, read_as}
use Rattle.meaning_program.specs.Troubles.{why_text}
use Rattle.meaning_program.specs.declared.simplified.Simplified.{Simplified}
use Rattle.meaning_program.specs.declared.simplified.UnmeantLine.{UnmeantLine}
use Rattle.meaning_program.specs.declared.simplified.Answer.{Answer}
use Rattle.meaning_program.specs.declared.simplified.Answer.TheVariants.{Meaning, Unmeant}

-- the line without the white space at its ends
abbrev pub trimmed : List ℕ → List ℕ
trimmed line =
    let behind = drop (prefix_len is_ascii_whitespace line) line in
    take (length behind - suffix_len is_ascii_whitespace behind) behind

-- ---- a line

-- a meaning text, or why there is none
abbrev pub MeaningOrWhy : Type 0
MeaningOrWhy = Result (List ℕ) (List ℕ)

-- that of a text that is read in this mode
abbrev pub IsOfText : Rows → ParseMode → List ℕ → MeaningOrWhy → Type 0
IsOfText c m text (Ok meaning) = IsMeaningOf c m text meaning
IsOfText c m text (Err why) =
    (u : compare.Unmeant) × IsMeaningless c m text u × (why ≡ why_text u)

-- that of bytes, which are UTF-8 or not
abbrev pub IsOfBytes : Rows → Bool → Bool → List ℕ → MeaningOrWhy → Type 0
IsOfBytes c is_lax true bytes answer = IsOfText c (mode_by is_lax) (read_as c is_lax bytes) answer
IsOfBytes c is_lax false bytes answer = answer ≡ Err (codes "not UTF-8")

-- that of a line without white space at its ends; a blank one stays blank
abbrev pub IsOfLine : Rows → Bool → List ℕ → MeaningOrWhy → Type 0
IsOfLine c is_lax [] answer = answer ≡ Ok []
IsOfLine c is_lax (b ∷ bs) answer = IsOfBytes c is_lax (is_utf8 (b ∷ bs)) (b ∷ bs) answer

pub record Line : Type 0 where
  pub text : List ℕ
  pub answer : MeaningOrWhy

abbrev pub IsAnswered : Rows → Bool → Line → Type 0
IsAnswered c is_lax line = IsOfLine c is_lax line.text line.answer

-- ---- what is written

-- the meaning text, or else the line as it stands
abbrev pub text_for : List ℕ → MeaningOrWhy → List ℕ
text_for text (Ok meaning) = meaning
text_for text (Err why) = text

abbrev pub written : Line → List ℕ
written line = text_for line.text line.answer ++ 10 ∷ []

-- ---- what is told

-- the number of a line, and why it has no meaning text
pub record Told : Type 0 where
  pub number : ℕ
  pub why : List ℕ

abbrev pub told_of : UnmeantLine → Told
told_of line = record { number = line.number; why = string_bytes line.why }

abbrev pub told_for : ℕ → MeaningOrWhy → List Told
told_for number (Ok meaning) = []
told_for number (Err why) = record { number = number; why = why } ∷ []

-- of lines, the first of which has this number
abbrev pub told_from : ℕ → List Line → List Told
told_from number [] = []
told_from number (line ∷ lines) = told_for number line.answer ++ told_from (number + 1) lines

-- ---- all lines

-- each of the lines, trimmed, is answered; what is written and told is that of the answers, in the
-- order of the lines
pub record AreSimplified (c : Rows) (is_lax : Bool) (texts : List (List ℕ))
    (x : Simplified) : Type 0 where
  pub lines : List Line
  pub of_texts : map (λ (line : Line). line.text) lines ≡ map trimmed texts
  pub answered : All (IsAnswered c is_lax) lines
  pub text_is : x.text.items ≡ flat_map written lines
  pub told_is : map told_of x.unmeant.items ≡ told_from 1 lines

abbrev pub IsSimplified : Rows → Bool → List ℕ → Simplified → Type 0
IsSimplified c is_lax bytes x = AreSimplified c is_lax (lines_of bytes) x

-- Only private clauses cite it.
abbrev pub answer_of : Answer → MeaningOrWhy
answer_of (Meaning meaning) = Ok (string_bytes meaning)
answer_of (Unmeant why) = Err (string_bytes why)
