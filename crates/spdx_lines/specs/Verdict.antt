-- What is said of a line.
use Rattle.std.specs.Prelude.{◌≡◌, ℕ, Bool, true, false, List, [], ◌∷◌, ◌++◌, map, Ok, codes, IsUtf8}
use Rattle.std.specs.List.{flat_map, join_by}
use Rattle.std.specs.Fmt.{decimal}
use Rattle.spdx_requirement.specs.Rows.{Rows}
use Rattle.spdx_requirement.specs.Items.{Requirement}
use Rattle.spdx_requirement.specs.Texts.{requirement_text}
use Rattle.spdx_lexer.specs.declared.token.ParseMode.{ParseMode}
use Rattle.spdx_lexer.specs.Modes.{strict, lax}
use Rattle.spdx_lexer.specs.Words.{Fault, Span, Placed, words}
use Rattle.spdx_lexer.specs.Faults.{fault_text}
use Rattle.spdx_lexer.specs.Reading.{reading}
use Rattle.spdx_parser.specs.Tree.{Tree}
use Rattle.spdx_parser.specs.Grammar.{IsTheTree}
use Rattle.spdx_parser.specs.Faults.{IsFaultOf}
use Rattle.spdx_canonical.specs.Canonical.{canonical_of}
use Rattle.spdx_canonical.specs.Normal.{normal_text}
use Rattle.spdx_minimize.specs.Choice.{Choice, chosen, too_many, unmet, choice_of}
use Rattle.spdx_lines.specs.declared.lines.LineMode.{LineMode}
use Rattle.spdx_lines.specs.declared.lines.LineMode.TheVariants.{Strict, Lax, Normal}

-- an accepted line has a tree, and a text of it as its second column; a refused one a fault and its
-- place
pub data Verdict : Type 0 where
  Accepted : Tree → List ℕ → Verdict
  Refused : Fault → Span → Verdict
  BadUtf8 : Verdict

-- how the lines are parsed
abbrev pub parse_mode : LineMode → ParseMode
parse_mode Strict = strict
parse_mode Lax = lax
parse_mode Normal = strict

-- the second column of an accepted line: its canonical text, or the normal text of its tree
abbrev pub IsColumn : Rows → LineMode → List ℕ → Tree → List ℕ → Type 0
IsColumn c Strict line t column = canonical_of c line ≡ Ok column
IsColumn c Lax line t column = canonical_of c line ≡ Ok column
IsColumn c Normal line t column = column ≡ normal_text t

-- ---- the verdict, by what the words mean

-- A line that is text is accepted if the grammar derives a tree from its words, and no other; else
-- it has a fault.
pub data IsVerdict (c : Rows) (mode : LineMode) (line : List ℕ) : Verdict → Type 0 where
  is_accepted : (read : List Placed) (t : Tree) (column : List ℕ) → IsUtf8 line →
      reading c (parse_mode mode) 0 line ≡ map Ok read →
      IsTheTree c (parse_mode mode) (words read) t → IsColumn c mode line t column →
      IsVerdict c mode line (Accepted t column)
  is_refused : (fault : Fault) (s : Span) → IsUtf8 line →
      IsFaultOf c (parse_mode mode) line fault s → IsVerdict c mode line (Refused fault s)
  is_no_text : ¬ (IsUtf8 line) → IsVerdict c mode line BadUtf8

-- this is the verdict, and there is no other
pub record IsTheVerdict (c : Rows) (mode : LineMode) (line : List ℕ) (v : Verdict) : Type 0 where
  pub given : IsVerdict c mode line v
  pub only : (other : Verdict) → IsVerdict c mode line other → other ≡ v

-- ---- what comes of it

-- a line that is no text counts as refused
abbrev pub counts_as_refused : Verdict → Bool
counts_as_refused (Accepted t text) = false
counts_as_refused (Refused fault s) = true
counts_as_refused BadUtf8 = true

-- the tree, where there is one
abbrev pub tree_in : Verdict → List Tree
tree_in (Accepted t text) = t ∷ []
tree_in (Refused fault s) = []
tree_in BadUtf8 = []

-- the trees of the accepted ones of these lines
abbrev pub trees_by : (List ℕ → Verdict) → List (List ℕ) → List Tree
trees_by verdict lines = flat_map (λ line. tree_in (verdict line)) lines

-- ---- its text

abbrev pub choice_text : Choice → List ℕ
choice_text (chosen requirements) = join_by requirement_text (codes ", ") requirements
choice_text (too_many n) = codes "too-many " ++ decimal n
choice_text unmet = codes "unmet"

-- the span and the fault
abbrev pub refusal_text : Fault → Span → List ℕ
refusal_text fault s =
    decimal s.from ++ (codes ".." ++ (decimal s.to ++ (codes " " ++ fault_text fault)))

-- the columns of an accepted line have a tab between them, the first two of them and what its tree
-- has behind
abbrev pub verdict_text : (Tree → List ℕ) → Verdict → List ℕ
verdict_text behind (Accepted t text) = codes "accepted" ++ (9 ∷ (text ++ (behind t ++ 10 ∷ [])))
verdict_text behind (Refused fault s) = codes "refused " ++ (refusal_text fault s ++ 10 ∷ [])
verdict_text behind BadUtf8 = codes "bad-utf8" ++ 10 ∷ []

-- a third column: the choice for the tree
abbrev pub choice_column : List Requirement → Tree → List ℕ
choice_column accepted t = 9 ∷ choice_text (choice_of (t ∷ []) accepted)

-- the line behind all others: the choice for all accepted ones
abbrev pub all_text : Choice → List ℕ
all_text choice = codes "all" ++ (9 ∷ (choice_text choice ++ 10 ∷ []))
