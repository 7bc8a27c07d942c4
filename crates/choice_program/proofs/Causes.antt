-- A fault of a part is one of the whole.
use Rattle.std.specs.Prelude.{ℕ, Bool, List}
use Rattle.std.specs.List.{AllZip}
use Rattle.std.proofs.Common.{inl, inr}
use Rattle.spdx_requirement.specs.Items.{Requirement}
use Rattle.spdx_requirement.specs.Rows.{Rows}
use Rattle.spdx_lexer.specs.declared.token.ParseMode.{ParseMode}
use Rattle.spdx_licensee.specs.LicenseeText.{Names}
use Rattle.package_items.specs.declared.package.Package.{Package}
use Rattle.choice_program.specs.declared.choosing.ChoiceTrouble.{ChoiceTrouble}
use Rattle.choice_program.specs.declared.choosing.ChoiceTrouble.TheVariants as trouble
use Rattle.choice_program.specs.Among.{AreNotChosen, IsMeant, LackStated, Meant}
use Rattle.choice_program.specs.Choose.{IsNoChoiceAmong}
use Rattle.choice_program.specs.Licensees.{IsNoLicensee, names_in}

pub unnamed : (c : Rows) (list : List ℕ) (m : ParseMode) (one : Bool) (ps : List Package) (t : ChoiceTrouble) → IsNoLicensee c (names_in list) t → IsNoChoiceAmong c list m one ps t
unnamed c list m one ps (trouble.NoLicensee n r) is = is
unnamed c list m one ps trouble.Memory is = is
unnamed c list m one ps (trouble.NoChoices us) is = absurd is
unnamed c list m one ps (trouble.NoneTogether w) is = absurd is
unnamed c list m one ps (trouble.Policy t) is = absurd is

pub unread : (c : Rows) (list : List ℕ) (m : ParseMode) (one : Bool) (ps : List Package) (ls : List Requirement) (t : ChoiceTrouble) → AllZip (Names c) (names_in list) ls → LackStated c m ps t → IsNoChoiceAmong c list m one ps t
unread c list m one ps ls (trouble.NoChoices us) named is = record { licensees = ls; accepted = named; lack = inl is }
unread c list m one ps ls trouble.Memory named is = is
unread c list m one ps ls (trouble.NoLicensee n r) named is = absurd is
unread c list m one ps ls (trouble.NoneTogether w) named is = absurd is
unread c list m one ps ls (trouble.Policy t) named is = absurd is

pub unmet : (c : Rows) (list : List ℕ) (m : ParseMode) (one : Bool) (ps : List Package) (ls : List Requirement) (meant : List Meant) (t : ChoiceTrouble) → AllZip (Names c) (names_in list) ls → AllZip (IsMeant c m) ps meant
    → AreNotChosen one ls meant t → IsNoChoiceAmong c list m one ps t
unmet c list m one ps ls meant (trouble.NoChoices us) named mean is = record { licensees = ls; accepted = named; lack = inr (meant, mean, is) }
unmet c list m one ps ls meant (trouble.NoneTogether w) named mean is = (is.0, record { licensees = ls; meant = meant; accepted = named; mean = mean; unmet = is.1 })
unmet c list m one ps ls meant trouble.Memory named mean is = is
unmet c list m one ps ls meant (trouble.NoLicensee n r) named mean is = absurd is
unmet c list m one ps ls meant (trouble.Policy t) named mean is = absurd is
