-- What `compare` writes, and with which status it ends.
use Rattle.std.specs.Prelude.{◌≡◌, ◌↔◌, ℕ, Bool, List, [], if◌then◌else◌}
use Rattle.std.specs.Option.{option_copied}
use Rattle.shelves.specs.Shelf.{Shelved}
use Rattle.spdx_requirement.specs.Rows.{Rows}
use Rattle.spdx_parser.specs.Tree.{Tree}
use Rattle.spdx_meaning.specs.Meaning.{IsEquivalent}
use Rattle.spdx_meaning.specs.Reading.{Says}
use Rattle.list_program.specs.Named.{InsideBytes, IsNamedList}
use Rattle.meaning_program.specs.declared.compared.TextPair.{TextPair}
use Rattle.meaning_program.specs.declared.compared.Compared.{Compared}
use Rattle.meaning_program.specs.Compared.{IsCompared}
use Rattle.meaning_program.specs.Reading.{mode_by, read_as}
use Rattle.spdx_troubles.specs.declared.trouble.Trouble.{Trouble}

abbrev pub status_of : Bool → ℕ
status_of is_same = if is_same then 0 else 1

-- what is told of both texts is written
pub record IsCompare (s : Shelved) (inside : InsideBytes) (a : TextPair) (text : List ℕ)
    (status : ℕ) : Type 0 where
  pub told : Compared
  pub is_compared : IsCompared s inside a told
  pub text_is : text ≡ told.text.items
  pub status_is : status ≡ status_of told.is_same

-- so it is with such a status, and nothing is told
abbrev pub SaysCompared : Shelved → InsideBytes → TextPair → List ℕ → List Trouble → Type 0
SaysCompared s inside a text told = (told ≡ []) × ((status : ℕ) × IsCompare s inside a text status)

-- by the list that is named each text says one tree, and the status is 0 exactly if they mean the
-- same: whatever is accepted, both hold or none does
pub record SaysSame (s : Shelved) (inside : InsideBytes) (a : TextPair) (status : ℕ) : Type 0 where
  pub catalogue : Rows
  pub first : Tree
  pub second : Tree
  pub list_is : IsNamedList s inside (option_copied a.list) catalogue
  pub first_is : Says catalogue (mode_by a.is_lax) (read_as catalogue a.is_lax a.one.now) first
  pub second_is :
      Says catalogue (mode_by a.is_lax) (read_as catalogue a.is_lax a.other.now) second
  pub same : (status ≡ 0) ↔ IsEquivalent first second
