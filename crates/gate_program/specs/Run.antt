-- A run of the gate: what is read, what is told, and how it ends.
use Rattle.std.specs.Prelude.{◌≡◌, ◌≢◌, ℕ, Bool, true, false, List, [], ◌∷◌, Option, Some, None, All, map, flat_map, bytes_eq, string_bytes, if◌then◌else◌}
use Rattle.std.specs.Global.{Vec}
use Rattle.std.specs.List.{AllZip, list_any}
use Rattle.std.specs.Option.{option_copied}
use Rattle.shelves.specs.Shelf.{Shelved}
use Rattle.spdx_requirement.specs.Rows.{Rows}
use Rattle.list_program.specs.Named.{InsideBytes, IsNamedList}
use Rattle.list_program.specs.Troubles.{IsNoNamedList}
use Rattle.package_items.specs.declared.package.Package.{Package}
use Rattle.package_files.specs.declared.all.AllListed.{AllListed}
use Rattle.package_files.specs.declared.fault.FileFault.{FileFault}
use Rattle.package_files.specs.declared.listed.Listed.{Listed}
use Rattle.package_files.specs.declared.listed.Source.{Source}
use Rattle.package_files.specs.All.{AreListed, is_of_memory, path_in}
use Rattle.package_files.specs.Faults.{IsNotListedBefore}
use Rattle.package_files.specs.Listed.{IsListedAt, IsListedBefore}
use Rattle.spdx_policy.specs.Rules.{Rules}
use Rattle.spdx_gate.specs.declared.package.Package as judged
use Rattle.spdx_gate.specs.declared.package.Verdict.{Verdict}
use Rattle.spdx_gate.specs.Reports.{IsVerdictOf}
use Rattle.spdx_gate.specs.Verdicts.{passes}
use Rattle.gate_program.specs.declared.gated.Gated.{Gated}
use Rattle.gate_program.specs.declared.run.Request.{Request}
use Rattle.gate_program.specs.declared.run.End.{End}
use Rattle.gate_program.specs.declared.run.End.TheVariants as end
use Rattle.gate_program.specs.declared.run.GateTrouble.{GateTrouble}
use Rattle.gate_program.specs.declared.run.GateTrouble.TheVariants as trouble
use Rattle.gate_program.specs.declared.run.Run.{Run}
use Rattle.gate_program.specs.declared.told.GateText.{GateText}
use Rattle.gate_program.specs.Files.{moved_package, views_in}
use Rattle.gate_program.specs.Gated.{IsGated}
use Rattle.gate_program.specs.Policy.{IsNoPolicyAt, IsPolicyAt}
use Rattle.gate_program.specs.Texts.{IsToldText}

-- ---- the older file

-- the older file, where one is named
abbrev pub IsOlderBy : Shelved → Source → Option (List ℕ) → Option (Vec Listed) → Type 0
IsOlderBy s how None older = older ≡ None
IsOlderBy s how (Some path) None = ⊥
IsOlderBy s how (Some path) (Some older) =
    (file : Listed) × IsListedBefore s how path file × (older.items ≡ file ∷ [])

abbrev pub IsOlder : Shelved → Request → Option (Vec Listed) → Type 0
IsOlder s a older = IsOlderBy s a.wanted.source (option_copied a.baseline) older

-- why it isn't had
abbrev pub IsNoOlderBy : Shelved → Source → Option (List ℕ) → FileFault → Type 0
IsNoOlderBy s how None f = ⊥
IsNoOlderBy s how (Some path) f = IsNotListedBefore s how path f

abbrev pub IsNoOlder : Shelved → Request → FileFault → Type 0
IsNoOlder s a f = IsNoOlderBy s a.wanted.source (option_copied a.baseline) f

-- ---- how a run ends

-- whether there is no file
abbrev pub is_none : List Listed → Bool
is_none [] = true
is_none (f ∷ fs) = false

-- whether some package, or one of some file, has the name
abbrev pub lists : List Package → List ℕ → Bool
lists packages name = list_any (λ (p : Package). bytes_eq (string_bytes p.name) name) packages

-- some package has the name
abbrev pub has_package : List Listed → List ℕ → Bool
has_package files name = list_any (λ (f : Listed). lists f.packages.items name) files

-- the text ends a run, unless a package was to be explained that there isn't
abbrev pub end_of : GateText → Option (List ℕ) → List Listed → End
end_of text None files = end.Told text
end_of text (Some name) files =
    if has_package files name then end.Told text else end.NoPackage text

-- the policy judges the packages of all files, and the text is what is told of that
pub record IsTold (c : Rows) (p : Rules) (a : Request) (files : List Listed)
    (older : Option (Vec Listed)) (text : GateText) : Type 0 where
  pub gated : Gated
  pub judges : IsGated c p files older gated
  pub tells : IsToldText c p a.policy.now a.look gated text

abbrev pub IsToldEnd : Rows → Rules → Request → List Listed → Option (Vec Listed) → End → Type 0
IsToldEnd c p a files older ended =
    (text : GateText) × IsTold c p a files older text ×
    (ended ≡ end_of text (option_copied a.look.explain) files)

-- what is told of these files, and of that older one, ends the run
pub record IsJudged (c : Rows) (p : Rules) (a : Request) (all : AllListed)
    (older : Option (Vec Listed)) (run : Run) : Type 0 where
  pub files_are : run.files.items ≡ all.files.items
  pub left_out_are : run.left_out ≡ all.left_out
  pub ends : IsToldEnd c p a all.files.items older run.end

-- the run ends where the older file isn't had; where memory was refused, there is no run
pub record IsWithoutBaseline (all : AllListed) (f : FileFault) (run : Run) : Type 0 where
  pub no_memory : is_of_memory f ≡ false
  pub files_are : run.files ≡ all.files
  pub left_out_are : run.left_out ≡ all.left_out
  pub ends : run.end ≡ end.NoBaseline f

-- no file is judged exactly where none lists packages; else the older file isn't had, or all is
-- told
pub data IsEnd (s : Shelved) (c : Rows) (p : Rules) (a : Request) (files : List Listed) :
    End → Type 0 where
  no_file : files ≡ [] → IsEnd s c p a files end.NoFile
  no_baseline : (f : FileFault) → files ≢ [] → IsNoOlder s a f → is_of_memory f ≡ false →
      IsEnd s c p a files (end.NoBaseline f)
  told : {ended : End} (older : Option (Vec Listed)) → files ≢ [] → IsOlder s a older →
      IsToldEnd c p a files older ended → IsEnd s c p a files ended

-- ---- a run

-- over this list and policy: each file lists its packages or is left out
pub record IsRunOver (s : Shelved) (c : Rows) (p : Rules) (a : Request) (run : Run) : Type 0 where
  pub reads : AreListed s a.wanted (map path_in a.paths.now) run.files.items run.left_out.items
  pub ends : IsEnd s c p a run.files.items run.end

-- by the list that is named, or else is inside, and the policy at its path
pub record IsRun (s : Shelved) (inside : InsideBytes) (replacements : List ℕ) (a : Request)
    (run : Run) : Type 0 where
  pub catalogue : Rows
  pub policy : Rules
  pub list_is : IsNamedList s inside (option_copied a.list) catalogue
  pub policy_is : IsPolicyAt s replacements catalogue a.policy.now policy
  pub runs : IsRunOver s catalogue policy a run

-- why there is none; nothing is said of memory
abbrev pub IsNoRun : Shelved → InsideBytes → List ℕ → Request → GateTrouble → Type 0
IsNoRun s inside replacements a (trouble.List t) = IsNoNamedList s inside (option_copied a.list) t
IsNoRun s inside replacements a (trouble.Policy t) =
    (c : Rows) × IsNamedList s inside (option_copied a.list) c ×
    IsNoPolicyAt s replacements c a.policy.now t
IsNoRun s inside replacements a trouble.Memory = Unit {0}

-- ---- its status

abbrev pub end_status : End → ℕ
end_status end.NoFile = 2
end_status (end.NoBaseline f) = 2
end_status (end.Told text) = if text.is_passed then 0 else 1
end_status (end.NoPackage text) = 2

abbrev pub status_by : List FileFault → End → ℕ
status_by [] ended = end_status ended
status_by (f ∷ fs) ended = 2

abbrev pub status_of : Run → ℕ
status_of run = status_by run.left_out.items run.end

-- ---- laws

-- by the policy's own definition the package passes
abbrev pub IsAllowed : Rows → Rules → judged.Package → Type 0
IsAllowed c p x = (v : Verdict) × IsVerdictOf c p x v × (passes v ≡ true)

-- every package of the files does
abbrev pub AreAllowed : Rows → Rules → List Listed → Type 0
AreAllowed c p files =
    (xs : List judged.Package) × (map moved_package xs ≡ flat_map views_in files) ×
    All (IsAllowed c p) xs

-- every package of the file at each path passes, by the list and the policy that are read
pub record AreAllAllowed (s : Shelved) (inside : InsideBytes) (replacements : List ℕ)
    (a : Request) : Type 0 where
  pub catalogue : Rows
  pub policy : Rules
  pub files : List Listed
  pub list_is : IsNamedList s inside (option_copied a.list) catalogue
  pub policy_is : IsPolicyAt s replacements catalogue a.policy.now policy
  pub reads : AllZip (IsListedAt s a.wanted) (map path_in a.paths.now) files
  pub pass : AreAllowed catalogue policy files
