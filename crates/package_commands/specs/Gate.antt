-- What `gate` writes and tells, and with which status it ends.
use Rattle.std.specs.Prelude.{◌≡◌, ℕ, Bool, true, false, List, [], ◌∷◌, ◌++◌, Option, String, map, string_bytes, unwrap_or}
use Rattle.std.specs.declared.alloc.Global.{Global}
use Rattle.std.specs.Option.{option_copied}
use Rattle.gate_program.specs.Run.{IsRun, status_of}
use Rattle.gate_program.specs.declared.run.End.{End}
use Rattle.gate_program.specs.declared.run.End.TheVariants as end
use Rattle.gate_program.specs.declared.run.Run.{Run}
use Rattle.gate_program.specs.declared.told.GateText.{GateText}
use Rattle.list_program.specs.Named.{InsideBytes}
use Rattle.package_files.specs.declared.listed.Listed.{Listed}
use Rattle.package_files.specs.declared.listed.Source.{Source}
use Rattle.shelves.specs.Shelf.{Shelved}
use Rattle.package_commands.specs.Forms.{AreFormsTold}
use Rattle.package_commands.specs.Shared.{AreSharedTold}
use Rattle.package_commands.specs.declared.gated.GateTask.{GateTask}
use Rattle.spdx_commands.specs.Said.{text_of}
use Rattle.spdx_commands.specs.declared.said.Said.{Said}
use Rattle.spdx_troubles.specs.Causes.{file_trouble}
use Rattle.spdx_troubles.specs.declared.trouble.Trouble.{Trouble}
use Rattle.spdx_troubles.specs.declared.trouble.Trouble.TheVariants as trouble

-- ---- how files were read

-- the forms that were guessed, and behind them the references that several documents share
pub record AreBothTold (how : Source) (files : List Listed) (told : List Trouble) : Type 0 where
  pub forms : List Trouble
  pub shared : List Trouble
  pub forms_are : AreFormsTold files forms
  pub shared_are : AreSharedTold how files shared
  pub told_are : told ≡ forms ++ shared

-- nothing of it where it is to be quiet
abbrev pub IsReadTold : Bool → Source → List Listed → List Trouble → Type 0
IsReadTold true how files told = told ≡ []
IsReadTold false how files told = AreBothTold how files told

-- ---- how the run ends

-- all is written, and it is told that no package has the name that was to be explained
abbrev pub IsUnexplained : Option (List ℕ) → GateText → List ℕ → List Trouble → Type 0
IsUnexplained explain x text told =
    (text ≡ x.bytes.items) × ((name : String Global) × (string_bytes name ≡ unwrap_or explain []) ×
    (told ≡ trouble.NoPackage name ∷ []))

-- what is told of the packages is written; without an older file that was named, it is told why
-- that isn't had
abbrev pub IsGateEnd : Option (List ℕ) → End → List ℕ → List Trouble → Type 0
IsGateEnd explain end.NoFile text told = (text ≡ []) × (told ≡ [])
IsGateEnd explain (end.NoBaseline f) text told = (text ≡ []) × (told ≡ file_trouble f ∷ [])
IsGateEnd explain (end.Told x) text told = (text ≡ x.bytes.items) × (told ≡ [])
IsGateEnd explain (end.NoPackage x) text told = IsUnexplained explain x text told

-- ---- the command

-- what is written and told of a run: first why files are left out, then how others were read
pub record IsGateTold (a : GateTask) (run : Run) (text : List ℕ) (told : List Trouble) : Type 0 where
  pub read : List Trouble
  pub ended : List Trouble
  pub read_are : IsReadTold a.is_quiet a.run.wanted.source run.files.items read
  pub ends : IsGateEnd (option_copied a.run.look.explain) run.end text ended
  pub told_are : told ≡ map file_trouble run.left_out.items ++ (read ++ ended)

-- what comes of a run is written and told
pub record IsGate (s : Shelved) (inside : InsideBytes) (replacements : List ℕ) (a : GateTask)
    (text : List ℕ) (told : List Trouble) (status : ℕ) : Type 0 where
  pub run : Run
  pub is_run : IsRun s inside replacements a.run run
  pub told_are : IsGateTold a run text told
  pub status_is : status ≡ status_of run

-- so it is with such a status
abbrev pub SaysGate : Shelved → InsideBytes → List ℕ → GateTask → List ℕ → List Trouble → Type 0
SaysGate s inside replacements a text told =
    (status : ℕ) × IsGate s inside replacements a text told status

-- ---- the parts of it, which only private clauses cite

-- this is said of the end, behind what is told before
pub record IsEndSaid (before : List Trouble) (explain : Option (List ℕ)) (e : End) (s : Said) :
    Type 0 where
  pub before_is : s.before.items ≡ before
  pub ends : IsGateEnd explain e (text_of s) s.after.items
