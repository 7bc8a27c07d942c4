-- What is known of lines and of what is written for them.
use Rattle.std.specs.Prelude.{◌≡◌, ◌⊎◌, ◌↔◌, ℕ, ◌+◌, Bool, true, false, List, [], ◌∷◌, ◌++◌, All, IsOk, flat_map}
use Rattle.std.specs.Str.{is_utf8}
use Rattle.line_engine.specs.Lines.{lines_of}
use Rattle.spdx_requirement.specs.Rows.{Rows}
use Rattle.spdx_parser.specs.Tree.{Tree}
use Rattle.spdx_canonical.specs.NormalLaw.{IsStrict, ReadsAs}
use Rattle.spdx_meaning.specs.Meaning.{IsEquivalent}
use Rattle.spdx_meaning.specs.MeaningText.{made_by_rank}
use Rattle.spdx_meaning.specs.Reading.{Says}
use Rattle.meaning_program.specs.Reading.{mode_by, read_as}
use Rattle.meaning_program.specs.Simplified.{trimmed}
use Rattle.meaning_program.specs.declared.simplified.Simplified.{Simplified}
use Rattle.meaning_program.specs.declared.simplified.UnmeantLine.{UnmeantLine}

-- ---- which lines are told

-- the text is an expression, as it is read, and not too many sets are made of its tree
pub record HasMeaning (c : Rows) (is_lax : Bool) (text : List ℕ) : Type 0 where
  pub is_text : is_utf8 text ≡ true
  pub tree : Tree
  pub says : Says c (mode_by is_lax) (read_as c is_lax text) tree
  pub few : IsOk (made_by_rank tree)

abbrev pub IsBlankOrMeant : Rows → Bool → List ℕ → Type 0
IsBlankOrMeant c is_lax line = (trimmed line ≡ []) ⊎ HasMeaning c is_lax (trimmed line)

-- nothing is told exactly if each line is blank or means something
abbrev pub TellsNothing : Rows → Bool → List ℕ → Simplified → Type 0
TellsNothing c is_lax bytes x =
    (x.unmeant.items ≡ []) ↔ All (IsBlankOrMeant c is_lax) (lines_of bytes)

-- ---- what is written for them

-- the text is read strictly, as a tree that means the same as this one
abbrev pub SaysTheSame : Rows → List ℕ → Tree → Type 0
SaysTheSame c text t = (u : Tree) × ReadsAs c text u × IsEquivalent t u

-- it says what the line means: always where lines are read strictly, and else where the line says
-- what strict reading can say
pub record KeepsMeaning (c : Rows) (is_lax : Bool) (line out : List ℕ) : Type 0 where
  pub tree : Tree
  pub says : Says c (mode_by is_lax) (read_as c is_lax (trimmed line)) tree
  pub same : (is_lax ≡ false) ⊎ IsStrict c tree → SaysTheSame c out tree

abbrev pub IsToldIn : List UnmeantLine → ℕ → Type 0
IsToldIn [] number = ⊥
IsToldIn (line ∷ lines) number = (line.number ≡ number) ⊎ IsToldIn lines number

-- the line as it stands, which is told by its number or is blank; or what it means
abbrev pub IsWrittenFor : Rows → Bool → Simplified → ℕ → List ℕ → List ℕ → Type 0
IsWrittenFor c is_lax x number line out =
    ((out ≡ trimmed line) × ((trimmed line ≡ []) ⊎ IsToldIn x.unmeant.items number))
    ⊎ KeepsMeaning c is_lax line out

-- as many as there are lines, whose numbers begin with this one
abbrev pub AreWrittenFrom : (ℕ → List ℕ → List ℕ → Type 0) → ℕ → List (List ℕ) →
    List (List ℕ) → Type 0
AreWrittenFrom IsFor number [] [] = Unit {0}
AreWrittenFrom IsFor number (line ∷ lines) (out ∷ outs) =
    IsFor number line out × AreWrittenFrom IsFor (number + 1) lines outs
AreWrittenFrom IsFor number _ _ = ⊥

pub record WritesEachLine (c : Rows) (is_lax : Bool) (bytes : List ℕ)
    (x : Simplified) : Type 0 where
  pub outs : List (List ℕ)
  pub text_is : x.text.items ≡ flat_map (λ out. out ++ 10 ∷ []) outs
  pub each : AreWrittenFrom (IsWrittenFor c is_lax x) 1 (lines_of bytes) outs
