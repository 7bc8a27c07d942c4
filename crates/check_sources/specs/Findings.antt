-- What is written of the expressions of a file, one behind another.
use Rattle.std.specs.Prelude.{◌≡◌, ℕ, Bool, ◌&&◌, not, List, [], ◌∷◌, ◌++◌, length, is_some, Option, None, Some, count_by}
use Rattle.line_engine.specs.declared.lines.Summary.{Summary}
use Rattle.finding_forms.specs.declared.forms.Format.{Format}
use Rattle.finding_forms.specs.Forms.{finding_text}
use Rattle.spdx_check.specs.declared.check.Check.{Check}
use Rattle.spdx_check.specs.Checking.{replacements_in}
use Rattle.spdx_check.specs.Finding.{IsTheFinding, Wrong}
use Rattle.check_sources.specs.Written.{Written, told_in}

-- the file that the expressions stand in
pub record Source : Type 0 where
  pub path : List ℕ
  pub bytes : List ℕ

-- nothing is written of an expression with nothing wrong
abbrev pub found_text : Format → Bool → Source → Written → Option Wrong → List ℕ
found_text format is_first source w None = []
found_text format is_first source w (Some wrong) =
    finding_text format is_first (told_in source.path source.bytes w wrong)

-- what is written of these: the finding of each that has one, of which the first may be the first
-- of all
abbrev pub findings_text : (List ℕ → Option Wrong) → Format → Bool → Source → List Written → List ℕ
findings_text finding format is_first source [] = []
findings_text finding format is_first source (w ∷ ws) =
    found_text format is_first source w (finding w.text)
    ++ findings_text finding format (is_first && not (is_some (finding w.text))) source ws

-- how many of them have something wrong
abbrev pub refused_count : (List ℕ → Option Wrong) → List Written → ℕ
refused_count finding ws = count_by (λ w. is_some (finding w.text)) ws

-- the text has the finding of each expression with something wrong, whole
abbrev pub TellsEach : (List ℕ → Option Wrong) → Format → Source → List Written → List ℕ → Type 0
TellsEach finding format source ws text =
    (before : List Written) (w : Written) (behind : List Written) (wrong : Wrong) →
    ws ≡ before ++ w ∷ behind → finding w.text ≡ Some wrong →
    (front : List ℕ) × (is_first : Bool) × (back : List ℕ) ×
    (text ≡ front ++ (finding_text format is_first (told_in source.path source.bytes w wrong) ++
    back))

-- each of these expressions that has something wrong is told at its place in the file, in their
-- order, and nothing else is; how many they are, and how many have something wrong, is counted
pub record ChecksWritten (check : Check) (is_first : Bool) (source : Source) (ws : List Written)
    (text : List ℕ) (summary : Summary) : Type 0 where
  pub finding : List ℕ → Option Wrong
  pub findings : (bytes : List ℕ) →
      IsTheFinding check.catalogue.now (replacements_in check) check.mode bytes (finding bytes)
  pub written : text ≡ findings_text finding check.format is_first source ws
  pub lines : summary.lines ≡ length ws
  pub refused : summary.refused ≡ refused_count finding ws
  pub tells : TellsEach finding check.format source ws text
  pub clean : summary.refused ≡ 0 → text ≡ []
