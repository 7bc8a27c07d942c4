-- What a run whose status is 0 says of expressions.
use Rattle.std.specs.Prelude.{◌≡◌, ℕ, false, List, All, Option, None, Some, map}
use Rattle.line_engine.specs.Lines.{lines_of}
use Rattle.manifests.specs.declared.form.Form.{Form}
use Rattle.shelves.specs.Shelf.{Shelved}
use Rattle.source_trees.specs.Readings.{IsReading}
use Rattle.source_trees.specs.declared.reading.Reading.{Reading}
use Rattle.source_trees.specs.declared.reading.Reading.TheVariants as reading
use Rattle.spdx_check.specs.declared.check.Check.{Check}
use Rattle.spdx_check.specs.Checking.{expression_of, is_white}
use Rattle.check_sources.specs.Decoding.{source_bytes, without_mark}
use Rattle.check_files.specs.Clean.{AreTagsClean, IsAccepted, IsManifestClean}
use Rattle.check_files.specs.Parts.{source_at}
use Rattle.check_program.specs.TreeClean.{IsTreeClean}
use Rattle.check_program.specs.declared.run.Request.{Request}
use Rattle.shelves.specs.AtPath.{told_path}
use Rattle.check_program.specs.Lines.{Gives}
use Rattle.check_program.specs.Paths.{Ways, below, path_in}
use Rattle.check_program.specs.Runs.{Inside, IsCheck, ways_in}

-- ---- a file, or standard input

-- a line that isn't white has an expression, which is accepted
abbrev pub IsLineClean : Check → List ℕ → Type 0
IsLineClean check line = is_white line ≡ false → IsAccepted check check.mode (expression_of line)

abbrev pub AreLinesClean : Check → List ℕ → Type 0
AreLinesClean check bytes = All (IsLineClean check) (lines_of bytes)

-- a manifest of a form, or else tags
abbrev pub IsPartClean : Check → Option Form → List ℕ → List ℕ → Type 0
IsPartClean check (Some form) name bytes = IsManifestClean check form (without_mark bytes)
IsPartClean check None name bytes = AreTagsClean check (source_at name (source_bytes bytes))

-- it is read whole
abbrev pub AreLinesCleanAt : Shelved → Check → List ℕ → Type 0
AreLinesCleanAt s check path = (bytes : List ℕ) × Gives s path bytes × AreLinesClean check bytes

abbrev pub IsPartCleanAt : Shelved → Check → Option Form → List ℕ → Type 0
IsPartCleanAt s check form path =
    (bytes : List ℕ) × Gives s path bytes × IsPartClean check form (told_path path) bytes

-- ---- a path

abbrev pub IsCleanAs : Shelved → Check → Ways → Reading → List ℕ → Type 0
IsCleanAs s check w reading.Lines path = AreLinesCleanAt s check path
IsCleanAs s check w reading.Tags path = IsPartCleanAt s check None path
IsCleanAs s check w (reading.Manifest form) path = IsPartCleanAt s check (Some form) path
IsCleanAs s check w (reading.Tree taken) path = IsTreeClean s check (below w taken) path

-- it is read, and all that is read of it is accepted
abbrev pub IsPathClean : Shelved → Check → Ways → List ℕ → Type 0
IsPathClean s check w path =
    (r : Reading) × IsReading s w.wanted path r × IsCleanAs s check w r path

-- so it is of all paths, by the list that is named or inside, and as it is asked
pub record AreAllClean (s : Shelved) (inside : Inside) (a : Request) : Type 0 where
  pub check : Check
  pub is : IsCheck s inside a check
  pub each : All (IsPathClean s check (ways_in a)) (map path_in a.paths.now)
