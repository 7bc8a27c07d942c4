-- What a run of `spdx check` writes and tells, and its status.
use Rattle.std.specs.Prelude.{◌≡◌, ◌⊎◌, ℕ, Bool, true, false, ◌&&◌, List, [], ◌++◌, Ok, map, if◌then◌else◌}
use Rattle.std.specs.Option.{option_copied}
use Rattle.check_files.specs.Told.{Account, Does}
use Rattle.finding_forms.specs.declared.forms.Format.{Format}
use Rattle.finding_forms.specs.declared.forms.Format.TheVariants as format
use Rattle.finding_forms.specs.Forms.{beginning, ending}
use Rattle.line_engine.specs.Device.{Told}
use Rattle.shelves.specs.Shelf.{Shelved}
use Rattle.list_program.specs.Named.{InsideBytes, IsNamedList, inside_of as list_inside}
use Rattle.list_program.specs.Troubles.{AreNoExtras, IsNoNamedList}
use Rattle.list_program.specs.declared.trouble.ListTrouble.{ListTrouble}
use Rattle.spdx_list.specs.Files.{ExtraRows, extras_in}
use Rattle.spdx_check.specs.declared.check.Check.{Check}
use Rattle.spdx_check.specs.Checking.{replacements_in}
use Rattle.check_sources.specs.declared.sums.Sums.{Sums}
use Rattle.check_sources.specs.Sums.{summary_text}
use Rattle.check_files.specs.declared.trouble.CheckFault.{CheckFault}
use Rattle.check_files.specs.declared.trouble.CheckFault.TheVariants as fault
use Rattle.check_files.specs.declared.trouble.CheckTrouble.{CheckTrouble}
use Rattle.check_files.specs.Tally.{nothing_counted, status_of, tally_of}
use Rattle.check_program.specs.declared.run.CheckEnd.{CheckEnd}
use Rattle.check_program.specs.declared.run.CheckEnd.TheVariants as end
use Rattle.check_program.specs.declared.run.Inside as written
use Rattle.check_program.specs.declared.run.Request.{Request}
use Rattle.check_program.specs.Begun.{ArePathsBegun}
use Rattle.check_program.specs.Paths.{ArePathSteps, Ways, path_in}

-- what the program has inside: its list and extras, what to write in place of names, and its
-- version
pub record Inside : Type 0 where
  pub bytes : InsideBytes
  pub replacements : List ℕ
  pub version : List ℕ

abbrev pub inside_of : written.Inside → Inside
inside_of i = record {
  bytes = list_inside i.list.list.now i.list.extras.now;
  replacements = i.replacements.now;
  version = i.version.now;
}

abbrev pub ways_in : Request → Ways
ways_in a = record { wanted = a.wanted; texts = option_copied a.texts; untagged = a.untagged }

-- expressions are checked by the list that is named or inside, and as it is asked
pub record IsCheck (s : Shelved) (inside : Inside) (a : Request) (check : Check) : Type 0 where
  pub list_is : IsNamedList s inside.bytes (option_copied a.list) check.catalogue.now
  pub extras : ExtraRows
  pub says : extras_in inside.replacements ≡ Ok extras
  pub replacements_are : replacements_in check ≡ extras.instead
  pub mode_is : check.mode ≡ a.mode
  pub format_is : check.format ≡ a.format

-- the formats that people read
abbrev pub is_read : Format → Bool
is_read (format.Human style) = true
is_read format.Short = true
is_read _ = false

-- the last lines, where they are asked for
abbrev pub last_lines : Bool → Format → Sums → List ℕ
last_lines is_asked format sums =
    if is_asked && is_read format then summary_text sums else []

-- each path in turn, between what stands before and behind all findings
pub record IsRunBy (s : Shelved) (check : Check) (version : List ℕ) (a : Request) (text : List ℕ)
    (told : List CheckTrouble) (status : ℕ) : Type 0 where
  pub sums : Sums
  pub found : List ℕ
  pub steps : ArePathSteps s check (ways_in a) (map path_in a.paths.now) nothing_counted found
      told (tally_of sums)
  pub text_is : text ≡ beginning check.format version ++ (found ++ (ending check.format ++
      last_lines a.summary check.format sums))
  pub status_is : status ≡ status_of (tally_of sums)

abbrev pub IsRun : Shelved → Inside → Request → List ℕ → List CheckTrouble → ℕ → Type 0
IsRun s inside a text told status = (check : Check) × IsCheck s inside a check
    × IsRunBy s check inside.version a text told status

-- the list isn't had, or what to write in place of names isn't, and nothing is written or told
pub record IsNoCheck (s : Shelved) (inside : Inside) (a : Request) (t : ListTrouble)
    (out out' : Told) (heard heard' : Account CheckTrouble) : Type 0 where
  pub why : IsNoNamedList s inside.bytes (option_copied a.list) t ⊎
      AreNoExtras inside.replacements t
  pub writes_none : out' ≡ out
  pub tells_none : heard' ≡ heard

-- what stands before all findings, as far as it is written; or all of that, and of the paths a
-- beginning; or all paths, and what stands behind all findings, as far as it is written
pub data IsRunBegun (s : Shelved) (check : Check) (version : List ℕ) (a : Request) :
    List ℕ → List CheckTrouble → Type 0 where
  in_beginning : (text rest : List ℕ) → beginning check.format version ≡ text ++ rest →
      IsRunBegun s check version a text []
  in_paths : (found : List ℕ) (told : List CheckTrouble) →
      ArePathsBegun s check (ways_in a) (map path_in a.paths.now) nothing_counted found told →
      IsRunBegun s check version a (beginning check.format version ++ found) told
  in_ending : (found text rest : List ℕ) (told : List CheckTrouble) (sums : Sums) →
      ArePathSteps s check (ways_in a) (map path_in a.paths.now) nothing_counted found told
      (tally_of sums) →
      ending check.format ++ last_lines a.summary check.format sums ≡ text ++ rest →
      IsRunBegun s check version a (beginning check.format version ++ (found ++ text)) told

-- a run is begun by the list that is named or inside, and as it is asked
abbrev pub IsBegun : Shelved → Inside → Request → List ℕ → List CheckTrouble → Type 0
IsBegun s inside a text told = (check : Check) × IsCheck s inside a check
    × IsRunBegun s check inside.version a text told

-- why a run ends before its end, and how far it has come then
abbrev pub IsNoRun : Shelved → Inside → Request → Told → Told → Account CheckTrouble →
    Account CheckTrouble → CheckEnd → Type 0
IsNoRun s inside a out out' heard heard' (end.List t) = IsNoCheck s inside a t out out' heard heard'
IsNoRun s inside a out out' heard heard' end.Output =
    (out'.has_failed ≡ true) × Does out out' heard heard' (IsBegun s inside a)
IsNoRun s inside a out out' heard heard' end.Memory =
    Does out out' heard heard' (IsBegun s inside a)

-- a run ends as a part of it broke off
abbrev pub IsEndOf : CheckFault → CheckEnd → Type 0
IsEndOf fault.Output e = e ≡ end.Output
IsEndOf fault.Memory e = e ≡ end.Memory
