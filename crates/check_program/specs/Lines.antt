-- What is done with a file, or standard input, that has an expression a line.
use Rattle.std.specs.Prelude.{◌≡◌, ◌⊎◌, ℕ, Bool, true, false, List, [], ◌∷◌, ◌++◌, Option, codes, count_by, String, string_bytes, if◌then◌else◌}
use Rattle.std.specs.declared.alloc.Global.{Global}
use Rattle.std.specs.declared.io.Error.{Error}
use Rattle.line_engine.specs.Device.{Told}
use Rattle.line_engine.specs.Lines.{cut, lines_of}
use Rattle.line_engine.specs.Output.{capped, output_of, summary_of, text_of}
use Rattle.line_engine.specs.Rule.{Rule}
use Rattle.shelves.specs.AtPath.{is_input, told_path}
use Rattle.shelves.specs.Opened.{MayHave}
use Rattle.shelves.specs.Shelf.{Shelved, to_open}
use Rattle.spdx_check.specs.declared.check.Check.{Check}
use Rattle.spdx_check.specs.Checking.{is_white, replacements_in, rule_by}
use Rattle.spdx_check.specs.Finding.{IsTheFinding, Wrong}
use Rattle.check_files.specs.declared.trouble.CheckTrouble.{CheckTrouble}
use Rattle.check_files.specs.declared.trouble.CheckTrouble.TheVariants as trouble
use Rattle.check_files.specs.Passing.{IsPassed}
use Rattle.check_files.specs.Tally.{Tally, is_clean, passed_over, with_lines}

-- ---- the bytes of a path, or of standard input

-- which bytes it has, that what is read of it may break off, and why it can't be opened
pub record Content : Type 1 where
  pub Holds : List ℕ → Type 0
  pub Breaks : Type 0
  pub Fails : Error → Type 0

abbrev pub of_file : Shelved → List ℕ → Content
of_file s path =
    record { Holds = s.Holds path; Breaks = s.Breaks path; Fails = s.Fails to_open path }

abbrev pub of_input : Shelved → Content
of_input s = record { Holds = s.IsInput; Breaks = s.InputBreaks; Fails = s.InputFails }

-- what is opened has the bytes that it tells of, and fails only where it may
abbrev pub opened : Told → Type 0 → Content
opened t MayFail = record { Holds = MayHave t.bytes; Breaks = MayFail; Fails = λ e. ⊥ }

abbrev pub content_by : Bool → Shelved → List ℕ → Content
content_by true s path = of_input s
content_by false s path = of_file s path

abbrev pub content_at : Shelved → List ℕ → Content
content_at s path = content_by (is_input path) s path

abbrev pub Gives : Shelved → List ℕ → List ℕ → Type 0
Gives s path bytes = (content_at s path).Holds bytes

-- ---- lines

-- what is wrong with each expression
abbrev pub AreFindings : Check → (List ℕ → Option Wrong) → Type 0
AreFindings check finding = (expression : List ℕ) →
    IsTheFinding check.catalogue.now (replacements_in check) check.mode expression
    (finding expression)

abbrev pub rule_of : Check → (List ℕ → Option Wrong) → Tally → List ℕ → Rule
rule_of check finding old name = rule_by finding check.format (is_clean old) name

-- the finding of each line of these bytes is written, and the lines are counted that aren't blank
pub record AreLinesChecked (check : Check) (name bytes : List ℕ) (old : Tally) (text : List ℕ)
    (new : Tally) : Type 0 where
  pub finding : List ℕ → Option Wrong
  pub findings : AreFindings check finding
  pub text_is : text ≡ output_of (rule_of check finding old name) bytes
  pub new_is : new ≡ with_lines (summary_of (rule_of check finding old name) (lines_of bytes))
      (capped (count_by is_white (lines_of bytes))) old

-- what is read breaks off behind these bytes: the lines that are whole in them are checked and
-- counted as those of any file, and that it broke off is told
pub record AreLinesBroken (check : Check) (name begun : List ℕ) (old : Tally) (text : List ℕ)
    (told : List CheckTrouble) (new : Tally) : Type 0 where
  pub finding : List ℕ → Option Wrong
  pub path : String Global
  pub findings : AreFindings check finding
  pub path_is : string_bytes path ≡ name
  pub text_is : text ≡ text_of (rule_of check finding old name) (cut begun).whole
  pub told_is : told ≡ trouble.Broken path ∷ []
  pub new_is : new ≡ passed_over (with_lines
      (summary_of (rule_of check finding old name) (cut begun).whole)
      (capped (count_by is_white (cut begun).whole)) old)

-- all lines are read of what has these bytes
abbrev pub AreAllRead : Content → Check → List ℕ → Tally → List ℕ → List CheckTrouble → Tally →
    Type 0
AreAllRead content check name old text told new = (bytes : List ℕ) × content.Holds bytes
    × AreLinesChecked check name bytes old text new × (told ≡ [])

-- or those of a beginning, only where reading may break off
abbrev pub AreSomeRead : Content → Check → List ℕ → Tally → List ℕ → List CheckTrouble → Tally →
    Type 0
AreSomeRead content check name old text told new =
    (begun : List ℕ) × (rest : List ℕ) × content.Holds (begun ++ rest) × content.Breaks
    × AreLinesBroken check name begun old text told new

abbrev pub AreRead : Content → Check → List ℕ → Tally → List ℕ → List CheckTrouble → Tally → Type 0
AreRead content check name old text told new = AreAllRead content check name old text told new
    ⊎ AreSomeRead content check name old text told new

-- or else it can't be opened
abbrev pub IsLinesStepOf : Content → Check → List ℕ → Tally → List ℕ → List CheckTrouble → Tally →
    Type 0
IsLinesStepOf content check name old text told new =
    AreRead content check name old text told new ⊎ IsPassed name content.Fails old text told new

abbrev pub IsLinesStep : Shelved → Check → List ℕ → Tally → List ℕ → List CheckTrouble → Tally →
    Type 0
IsLinesStep s check path old text told new =
    IsLinesStepOf (content_at s path) check (told_path path) old text told new
