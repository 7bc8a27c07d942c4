-- What `simplify` writes and tells, and with which status it ends.
use Rattle.std.specs.Prelude.{◌≡◌, ℕ, List, [], ◌∷◌, ◌++◌, String, codes, flat_map, string_bytes}
use Rattle.std.specs.declared.alloc.Global.{Global}
use Rattle.std.specs.Fmt.{decimal}
use Rattle.std.specs.List.{AllZip}
use Rattle.shelves.specs.Shelf.{Shelved}
use Rattle.list_program.specs.Named.{InsideBytes}
use Rattle.meaning_program.specs.Files.{IsRun, status_of}
use Rattle.meaning_program.specs.declared.files.FileEnd.{FileEnd}
use Rattle.meaning_program.specs.declared.files.FileEnd.TheVariants as end
use Rattle.meaning_program.specs.declared.files.Request.{Request}
use Rattle.meaning_program.specs.declared.files.Run.{Run}
use Rattle.meaning_program.specs.declared.simplified.Simplified.{Simplified}
use Rattle.meaning_program.specs.declared.simplified.UnmeantLine.{UnmeantLine}
use Rattle.spdx_commands.specs.Said.{text_of, told_of}
use Rattle.spdx_commands.specs.declared.said.Said.{Said}
use Rattle.spdx_troubles.specs.Causes.{of_path}
use Rattle.spdx_troubles.specs.declared.trouble.Trouble.{Trouble}
use Rattle.spdx_troubles.specs.declared.trouble.Trouble.TheVariants as trouble

-- where a line of a file stands
abbrev pub place_of : List ℕ → ℕ → List ℕ
place_of path number = path ++ (codes ":" ++ decimal number)

-- it is told why the line has no meaning text
pub data IsUnmeant (path : List ℕ) (line : UnmeantLine) : Trouble → Type 0 where
  is_unmeant : {place : String Global} → string_bytes place ≡ place_of path line.number →
      IsUnmeant path line (trouble.Unmeant place line.why)

-- that is told of each of these lines, in their order
abbrev pub AreUnmeant : List ℕ → List UnmeantLine → List Trouble → Type 0
AreUnmeant path lines told = AllZip (IsUnmeant path) lines told

-- the lines of a file are written, and those are told that have no meaning text
pub record IsReadTold (path : List ℕ) (x : Simplified) (text : List ℕ) (told : List Trouble) :
    Type 0 where
  pub text_is : text ≡ x.text.items
  pub each : AreUnmeant path x.unmeant.items told

-- or it is told why it can't be read
abbrev pub IsToldOf : FileEnd → List ℕ → List Trouble → Type 0
IsToldOf (end.Read n x) text told = IsReadTold (string_bytes n) x text told
IsToldOf (end.Unread n e) text told = (text ≡ []) × (told ≡ of_path n e ∷ [])

-- so it is with each file, one behind the other
pub data AreToldOf : List FileEnd → List ℕ → List Trouble → Type 0 where
  none : AreToldOf [] [] []
  one_more : (files : List FileEnd) (file : FileEnd) (text written : List ℕ)
      (told heard : List Trouble) → AreToldOf files text told → IsToldOf file written heard →
      AreToldOf (files ++ file ∷ []) (text ++ written) (told ++ heard)

-- what comes of all files is written and told
pub record IsSimplify (s : Shelved) (inside : InsideBytes) (a : Request) (text : List ℕ)
    (told : List Trouble) (status : ℕ) : Type 0 where
  pub run : Run
  pub is_run : IsRun s inside a run
  pub told_are : AreToldOf run.files.items text told
  pub status_is : status ≡ status_of run

-- so it is with such a status
abbrev pub SaysMeant : Shelved → InsideBytes → Request → List ℕ → List Trouble → Type 0
SaysMeant s inside a text told = (status : ℕ) × IsSimplify s inside a text told status

-- ---- the parts of it, which only private clauses cite

-- this is what is said of the files
abbrev pub AreSaidOf : List FileEnd → List Said → Type 0
AreSaidOf files all = AreToldOf files (flat_map text_of all) (flat_map told_of all)
