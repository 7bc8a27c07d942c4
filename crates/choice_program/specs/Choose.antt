-- What packages are used under among the licences of a list, and why there is no choice.
use Rattle.std.specs.Prelude.{◌≡◌, ◌⊎◌, ℕ, Bool, true, List, string_bytes}
use Rattle.std.specs.List.{AllZip}
use Rattle.spdx_requirement.specs.Items.{Requirement}
use Rattle.spdx_requirement.specs.Rows.{Rows}
use Rattle.spdx_lexer.specs.declared.token.ParseMode.{ParseMode}
use Rattle.spdx_lexer.specs.Faults.{fault_of}
use Rattle.spdx_licensee.specs.LicenseeText.{Names}
use Rattle.package_items.specs.declared.package.Package.{Package}
use Rattle.choice_program.specs.declared.choosing.ChoiceTrouble.{ChoiceTrouble}
use Rattle.choice_program.specs.declared.choosing.ChoiceTrouble.TheVariants as trouble
use Rattle.choice_program.specs.declared.choosing.Chosen.{Chosen}
use Rattle.choice_program.specs.declared.unchosen.Unchosen.{Unchosen}
use Rattle.choice_program.specs.declared.unchosen.Why.{Why}
use Rattle.choice_program.specs.Among.{AreUnmet, AreUnread, IsChosenOf, IsMeant, IsNoneTogether, Meant}
use Rattle.choice_program.specs.Licensees.{IsFirstUnnamed, names_in}

-- the names of the list are those of licensees, and the packages' texts mean what is chosen of
pub record IsChosenAmong (c : Rows) (list : List ℕ) (m : ParseMode) (one : Bool)
    (packages : List Package) (chosen : Chosen) : Type 0 where
  pub licensees : List Requirement
  pub meant : List Meant
  pub accepted : AllZip (Names c) (names_in list) licensees
  pub mean : AllZip (IsMeant c m) packages meant
  pub are_chosen : IsChosenOf one licensees meant chosen

-- some packages have no expression, or each has one, and some have no choice
pub record AreUnchosen (c : Rows) (list : List ℕ) (m : ParseMode) (packages : List Package)
    (lacking : List Unchosen) : Type 0 where
  pub licensees : List Requirement
  pub accepted : AllZip (Names c) (names_in list) licensees
  pub lack : AreUnread c m packages lacking
      ⊎ ((meant : List Meant) × AllZip (IsMeant c m) packages meant ×
      AreUnmet licensees meant lacking)

-- each has a choice, and there is none for all of them
pub record IsNoneAmong (c : Rows) (list : List ℕ) (m : ParseMode) (packages : List Package)
    (w : Why) : Type 0 where
  pub licensees : List Requirement
  pub meant : List Meant
  pub accepted : AllZip (Names c) (names_in list) licensees
  pub mean : AllZip (IsMeant c m) packages meant
  pub unmet : IsNoneTogether licensees meant w

-- no policy is asked for; nothing is said of memory
abbrev pub IsNoChoiceAmong : Rows → List ℕ → ParseMode → Bool → List Package → ChoiceTrouble →
    Type 0
IsNoChoiceAmong c list m one packages (trouble.NoLicensee n r) =
    IsFirstUnnamed c (names_in list) (string_bytes n) (fault_of r)
IsNoChoiceAmong c list m one packages (trouble.NoChoices us) =
    AreUnchosen c list m packages us.items
IsNoChoiceAmong c list m one packages (trouble.NoneTogether w) =
    (one ≡ true) × IsNoneAmong c list m packages w
IsNoChoiceAmong c list m one packages (trouble.Policy t) = ⊥
IsNoChoiceAmong c list m one packages trouble.Memory = Unit {0}
