-- What a run says whose page is written.
use Rattle.std.specs.Prelude.{◌≡◌, ℕ, ◌==◌, Bool, true, List, [], Option, None, Some, is_some, length, map, option_map}
use Rattle.std.specs.Global.{Vec}
use Rattle.std.specs.List.{AllZip}
use Rattle.std.specs.Option.{option_copied}
use Rattle.shelves.specs.Shelf.{Shelved}
use Rattle.spdx_requirement.specs.Rows.{Rows}
use Rattle.list_program.specs.Named.{InsideBytes, IsNamedList}
use Rattle.package_files.specs.All.{path_in}
use Rattle.package_files.specs.Listed.{IsListedAt}
use Rattle.choice_program.specs.declared.choosing.Chosen.{Chosen}
use Rattle.choice_program.specs.Chosen.{IsChosen}
use Rattle.notice_forms.specs.Pages.{page_in}
use Rattle.notice_forms.specs.Told.{Told}
use Rattle.notice_told.specs.declared.packages.Package.{Package}
use Rattle.notice_told.specs.Lacks.{Lacked}
use Rattle.owed_texts.specs.Own.{Read}
use Rattle.notice_program.specs.declared.end.End.{End}
use Rattle.notice_program.specs.declared.end.End.TheVariants as end
use Rattle.notice_program.specs.declared.end.ToldPage.{ToldPage}
use Rattle.notice_program.specs.declared.end.Request.{Request}
use Rattle.notice_program.specs.declared.run.Run.{Run}
use Rattle.notice_program.specs.Noted.{noted_by, noted_in}
use Rattle.notice_program.specs.Run.{status_of}
use Rattle.notice_program.specs.Standing.{EachIsThere}
use Rattle.notice_program.specs.Taken.{Taken, packages_in, taken_in}
use Rattle.notice_program.specs.Told.{has_own, lacking_of, missing_by}

-- ---- the page

abbrev pub page_bytes : Vec ℕ → List ℕ
page_bytes page = page.items

-- the bytes of the page that is written, if one is
abbrev pub page_of : End → Option (List ℕ)
page_of (end.Told n) = option_map page_bytes n.page
page_of e = None

abbrev pub is_written : Run → Bool
is_written run = is_some (page_of run.end)

-- ---- what is on it

-- each of the packages with its own files stands on the page, none is left out, and so does each text
-- that its choice wants, but those that are told as missing; where all texts have to be there, none
-- is missing
pub record IsWhole (a : Request) (taken : List Taken) (n : ToldPage) : Type 0 where
  pub reads : List (List Read)
  pub packages : List Package
  pub told : Told
  pub missing : List Lacked
  pub packages_are : map noted_by packages ≡ noted_in taken reads
  pub none_left_out : length packages ≡ length taken
  pub page_is : option_map page_bytes n.page ≡ Some (page_in a.format told)
  pub each : EachIsThere (has_own a.folders.own) packages told.texts missing
  pub missing_told : has_own a.folders.own ≡ true →
      map missing_by n.missing.items ≡ map lacking_of missing
  pub none_missing : has_own a.folders.own ≡ true → a.is_strict ≡ true → missing ≡ []

-- each file is read, each package has a choice that is accepted, and the page has what they want
pub record AreAllNoticed (s : Shelved) (inside : InsideBytes) (replacements : List ℕ) (a : Request)
    (run : Run) : Type 0 where
  pub catalogue : Rows
  pub choices : Chosen
  pub notice : ToldPage
  pub list_is : IsNamedList s inside (option_copied a.list) catalogue
  pub reads : AllZip (IsListedAt s a.wanted) (map path_in a.paths.now) run.files.items
  pub chosen : IsChosen s replacements catalogue a.accepted a.one_for_all
      (packages_in run.files.items)
      choices
  pub each_taken :
      length (taken_in run.files.items choices) ≡ length (packages_in run.files.items)
  pub ends : run.end ≡ end.Told notice
  pub whole : IsWhole a (taken_in run.files.items choices) notice

-- a page is written exactly if the status is 0
abbrev pub IsWrittenExactly : Run → Type 0
IsWrittenExactly run = is_written run ≡ (status_of run == 0)

-- by no list that is named do the packages of the run's files have choices that are accepted
abbrev pub HasNoChoice : Shelved → InsideBytes → List ℕ → Request → Run → Type 0
HasNoChoice s inside replacements a run = (c : Rows) → (choices : Chosen) →
    IsNamedList s inside (option_copied a.list) c →
    IsChosen s replacements c a.accepted a.one_for_all (packages_in run.files.items) choices → ⊥
