-- What `list show` writes.
use Rattle.std.specs.Prelude.{◌≡◌, ◌↔◌, ◌⊎◌, ℕ, List, [], ◌∷◌, Option, None, Ok, All, filter, map}
use Rattle.std.specs.Option.{option_copied}
use Rattle.shelves.specs.Shelf.{Shelved}
use Rattle.spdx_requirement.specs.Rows.{Rows}
use Rattle.spdx_list.specs.Diff.{nows}
use Rattle.spdx_list.specs.Files.{ExtraRows, extras_in}
use Rattle.list_program.specs.declared.trouble.ListTrouble.{ListTrouble}
use Rattle.list_program.specs.declared.trouble.ListTrouble.TheVariants as trouble
use Rattle.list_program.specs.Named.{InsideBytes, IsNamedList}
use Rattle.list_program.specs.Dated.{IsNamedDate}
use Rattle.list_program.specs.Troubles.{AreNoExtras, IsNoNamedList}
use Rattle.list_told.specs.declared.shown.NameQuery.{NameQuery}
use Rattle.list_told.specs.declared.shown.Shown.{Shown}
use Rattle.list_told.specs.declared.unlisted.Unlisted.{Unlisted}
use Rattle.list_told.specs.Texts.{AreTexts}
use Rattle.list_told.specs.Told.{IsTextOf, names_text}
use Rattle.list_told.specs.Unlisted.{IsListed, is_unlisted, unlisted_by, unlisted_row}

-- of each name its row, and of each that the list hasn't what is told
pub record AreShown (c : Rows) (x : ExtraRows) (names : List (List ℕ)) (shown : Shown) : Type 0 where
  pub rows_are : AreTexts (IsTextOf c x) names shown.text.items
  pub unlisted_are :
      map unlisted_row shown.unlisted.items ≡ map (unlisted_by c) (filter (is_unlisted c) names)

-- without names, all of them
pub record AreAllShown (c : Rows) (day : Option (List ℕ)) (shown : Shown) : Type 0 where
  pub text_is : shown.text.items ≡ names_text c day
  pub unlisted_are : shown.unlisted.items ≡ []

abbrev pub IsShownBy :
    Rows → Option (List ℕ) → List ℕ → List (List ℕ) → Shown → Type 0
IsShownBy c day replacements [] shown = AreAllShown c day shown
IsShownBy c day replacements (name ∷ names) shown =
    (x : ExtraRows) × (extras_in replacements ≡ Ok x) × AreShown c x (name ∷ names) shown

-- the day of the list is told without names alone
abbrev pub IsDayFor :
    Shelved → InsideBytes → Option (List ℕ) → List (List ℕ) → Option (List ℕ) → Type 0
IsDayFor s inside list [] day = IsNamedDate s inside list day
IsDayFor s inside list (name ∷ names) day = day ≡ None

-- by the list that is named, or else is inside
pub record IsShown (s : Shelved) (inside : InsideBytes) (replacements : List ℕ) (a : NameQuery)
    (shown : Shown) : Type 0 where
  pub catalogue : Rows
  pub day : Option (List ℕ)
  pub list_is : IsNamedList s inside (option_copied a.list) catalogue
  pub day_is : IsDayFor s inside (option_copied a.list) (nows a.names.now) day
  pub shown_is : IsShownBy catalogue day replacements (nows a.names.now) shown

-- why nothing is told by a list: the replacements, for which nobody asks without names, aren't
-- readable
abbrev pub AreNoReplacements : List ℕ → List (List ℕ) → ListTrouble → Type 0
AreNoReplacements replacements [] t = t ≡ trouble.Memory
AreNoReplacements replacements (name ∷ names) t = AreNoExtras replacements t

-- why nothing is told
abbrev pub IsNotShown : Shelved → InsideBytes → List ℕ → NameQuery → ListTrouble → Type 0
IsNotShown s inside replacements a t =
    IsNoNamedList s inside (option_copied a.list) t
    ⊎ ((c : Rows) × IsNamedList s inside (option_copied a.list) c
    × AreNoReplacements replacements (nows a.names.now) t)

abbrev pub status_by : List Unlisted → ℕ
status_by [] = 0
status_by (u ∷ us) = 2

abbrev pub status_of : Shown → ℕ
status_of shown = status_by shown.unlisted.items

-- the status is 0 exactly if the list that is read has each of the names
pub record TellsListed (s : Shelved) (inside : InsideBytes) (a : NameQuery) (shown : Shown) :
    Type 0 where
  pub catalogue : Rows
  pub list_is : IsNamedList s inside (option_copied a.list) catalogue
  pub listed : (status_of shown ≡ 0) ↔ All (IsListed catalogue) (nows a.names.now)
