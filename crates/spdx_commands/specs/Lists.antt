-- What the commands below `list` write and tell, and with which status they end.
use Rattle.std.specs.Prelude.{◌≡◌, ◌↔◌, true, ℕ, List, [], All, map}
use Rattle.std.specs.Option.{option_copied}
use Rattle.line_engine.specs.Device.{Told}
use Rattle.shelves.specs.Shelf.{Shelved}
use Rattle.spdx_requirement.specs.Rows.{Rows}
use Rattle.spdx_list.specs.Diff.{nows}
use Rattle.list_program.specs.Named.{InsideBytes, IsNamedList}
use Rattle.list_program.specs.Written.{IsUnwritten, MadePaths, WritesList}
use Rattle.list_program.specs.declared.trouble.ListTrouble.{ListTrouble}
use Rattle.list_program.specs.declared.trouble.ListTrouble.TheVariants as list
use Rattle.list_told.specs.Diffs.{IsDiff}
use Rattle.list_told.specs.declared.differing.Lists.{Lists}
use Rattle.list_told.specs.declared.shown.NameQuery.{NameQuery}
use Rattle.list_told.specs.declared.shown.Shown.{Shown}
use Rattle.list_told.specs.declared.unlisted.Unlisted.{Unlisted}
use Rattle.list_told.specs.Shown.{IsShown, status_of}
use Rattle.list_told.specs.Unlisted.{IsListed}
use Rattle.spdx_commands.specs.Said.{text_of, told_of}
use Rattle.spdx_commands.specs.declared.said.Said.{Said}
use Rattle.spdx_troubles.specs.Causes.{list_trouble}
use Rattle.spdx_troubles.specs.declared.trouble.Trouble.{Trouble}
use Rattle.spdx_troubles.specs.declared.trouble.Trouble.TheVariants as trouble

-- ---- `list show`

-- a name that the list hasn't, and what is told of it
abbrev pub unlisted_trouble : Unlisted → Trouble
unlisted_trouble u = trouble.Unlisted u.name u.told

-- what the list says of the names is written, and those are told that it hasn't
pub record IsShow (s : Shelved) (inside : InsideBytes) (replacements : List ℕ) (a : NameQuery)
    (text : List ℕ) (told : List Trouble) (status : ℕ) : Type 0 where
  pub shown : Shown
  pub is_shown : IsShown s inside replacements a shown
  pub text_is : text ≡ shown.text.items
  pub told_are : told ≡ map unlisted_trouble shown.unlisted.items
  pub status_is : status ≡ status_of shown

-- so it is with such a status
abbrev pub SaysShown : Shelved → InsideBytes → List ℕ → NameQuery → List ℕ → List Trouble → Type 0
SaysShown s inside replacements a text told =
    (status : ℕ) × IsShow s inside replacements a text told status

-- the status is 0 exactly if the list that is read has each of the names
pub record SaysListed (s : Shelved) (inside : InsideBytes) (a : NameQuery) (status : ℕ) : Type 0 where
  pub catalogue : Rows
  pub list_is : IsNamedList s inside (option_copied a.list) catalogue
  pub listed : (status ≡ 0) ↔ All (IsListed catalogue) (nows a.names.now)

-- ---- `list diff`

-- the difference is written, and nothing is told
abbrev pub SaysDiffer : Shelved → InsideBytes → List ℕ → Lists → List ℕ → List Trouble → Type 0
SaysDiffer s inside replacements a text told = (told ≡ []) × IsDiff s inside replacements a text

-- ---- `list make`

-- the list that the files make was written
abbrev pub WritesMade : Shelved → MadePaths → Told → Told → Type 0
WritesMade s paths out out' = WritesList s paths out.bytes out'.bytes

-- why it was not
pub record IsUnmade (s : Shelved) (paths : MadePaths) (out out' : Told) (t : Trouble) :
    Type 0 where
  pub cause : ListTrouble
  pub is_unwritten : IsUnwritten s paths out.bytes out'.bytes cause
  pub failed : cause ≡ list.Output → out'.has_failed ≡ true
  pub trouble_is : t ≡ list_trouble cause

-- ---- the parts of it, which only private clauses cite

-- this is what is said of the names
pub record IsShownSaid (shown : Shown) (s : Said) : Type 0 where
  pub text_is : text_of s ≡ shown.text.items
  pub told_are : told_of s ≡ map unlisted_trouble shown.unlisted.items
