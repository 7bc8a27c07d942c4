-- What is written and told of paths at which a check breaks off.
use Rattle.std.specs.Prelude.{◌≡◌, ◌⊎◌, ℕ, Bool, true, List, [], ◌∷◌, ◌++◌, Option, None, Some}
use Rattle.line_engine.specs.Output.{output_so_far}
use Rattle.manifests.specs.declared.form.Form.{Form}
use Rattle.shelves.specs.Shelf.{Shelved}
use Rattle.source_trees.specs.Readings.{IsReading}
use Rattle.source_trees.specs.declared.reading.Reading.{Reading}
use Rattle.source_trees.specs.declared.reading.Reading.TheVariants as reading
use Rattle.spdx_check.specs.declared.check.Check.{Check}
use Rattle.spdx_check.specs.Finding.{Wrong}
use Rattle.check_sources.specs.Decoding.{source_bytes, without_mark}
use Rattle.check_files.specs.Begun.{IsBeginning, IsManifestText, IsTagText}
use Rattle.check_files.specs.declared.trouble.CheckTrouble.{CheckTrouble}
use Rattle.check_files.specs.Parts.{source_at}
use Rattle.check_files.specs.Tally.{Tally}
use Rattle.check_program.specs.TreeBegun.{IsTreeBegun}
use Rattle.shelves.specs.AtPath.{told_path}
use Rattle.check_program.specs.Lines.{AreFindings, Gives, rule_of}
use Rattle.check_program.specs.Paths.{ArePathSteps, Ways, below}

-- ---- a file of lines

-- of what holds these bytes and others behind them these were read: a beginning is written of the
-- findings of the lines that are whole in them; of its last line only where no others are behind
pub record AreLinesBegun (Holds : List ℕ → Type 0) (check : Check) (name : List ℕ) (old : Tally)
    (text : List ℕ) : Type 0 where
  pub read : List ℕ
  pub rest : List ℕ
  pub holds : Holds (read ++ rest)
  pub is_ended : Bool
  pub ended : is_ended ≡ true → rest ≡ []
  pub finding : List ℕ → Option Wrong
  pub findings : AreFindings check finding
  pub others : List ℕ
  pub begins : output_so_far (rule_of check finding old name) read is_ended ≡ text ++ others

-- nothing is told; nothing is written, or that
abbrev pub IsLinesStepBegun : (List ℕ → Type 0) → Check → List ℕ → Tally → List ℕ →
    List CheckTrouble → Type 0
IsLinesStepBegun Holds check name old text told =
    (told ≡ []) × ((text ≡ []) ⊎ AreLinesBegun Holds check name old text)

-- ---- a file that is read whole

-- what is found in it as a manifest of a form, or else behind its tags
abbrev pub IsPartText : Check → Option Form → List ℕ → List ℕ → Tally → List ℕ → Type 0
IsPartText check (Some form) name bytes old text =
    IsManifestText check form (source_at name (without_mark bytes)) old text
IsPartText check None name bytes old text =
    IsTagText check (source_at name (source_bytes bytes)) old text

-- nothing is told; nothing is written, or a beginning of that
abbrev pub IsPartStepBegun : Shelved → Check → Option Form → List ℕ → Tally → List ℕ →
    List CheckTrouble → Type 0
IsPartStepBegun s check form path old text told = (told ≡ []) × ((text ≡ [])
    ⊎ ((bytes : List ℕ) × Gives s path bytes
    × IsBeginning (IsPartText check form (told_path path) bytes old) text))

-- ---- a path

abbrev pub IsReadBegun : Shelved → Check → Ways → Reading → List ℕ → Tally → List ℕ →
    List CheckTrouble → Type 0
IsReadBegun s check w reading.Lines path old text told =
    IsLinesStepBegun (Gives s path) check (told_path path) old text told
IsReadBegun s check w reading.Tags path old text told =
    IsPartStepBegun s check None path old text told
IsReadBegun s check w (reading.Manifest form) path old text told =
    IsPartStepBegun s check (Some form) path old text told
IsReadBegun s check w (reading.Tree taken) path old text told =
    IsTreeBegun s check (below w taken) path old text told

-- nothing is written or told; or that
abbrev pub IsPathBegun : Shelved → Check → Ways → List ℕ → Tally → List ℕ → List CheckTrouble →
    Type 0
IsPathBegun s check w path old text told = ((text ≡ []) × (told ≡ []))
    ⊎ ((r : Reading) × IsReading s w.wanted path r × IsReadBegun s check w r path old text told)

-- ---- all paths

-- the first paths were checked, and of the next one a beginning
pub record ArePathsBegun (s : Shelved) (check : Check) (w : Ways) (paths : List (List ℕ))
    (old : Tally) (text : List ℕ) (told : List CheckTrouble) : Type 0 where
  pub first : List (List ℕ)
  pub next : List ℕ
  pub others : List (List ℕ)
  pub whole : paths ≡ first ++ next ∷ others
  pub found : List ℕ
  pub found_told : List CheckTrouble
  pub between : Tally
  pub steps : ArePathSteps s check w first old found found_told between
  pub own : List ℕ
  pub own_told : List CheckTrouble
  pub begun : IsPathBegun s check w next between own own_told
  pub text_is : text ≡ found ++ own
  pub told_is : told ≡ found_told ++ own_told
