-- How a run ends where each package has a choice.
use Rattle.std.specs.Prelude.{◌≡◌, ◌≢◌, ◌⊎◌, ℕ, Bool, true, false, List, [], ◌∷◌, Option, None, Some, String, map}
use Rattle.std.specs.Borrow.{Bor}
use Rattle.std.specs.Global.{Vec}
use Rattle.std.specs.declared.alloc.Global.{Global}
use Rattle.shelves.specs.Shelf.{Shelved, to_look}
use Rattle.owed_texts.specs.declared.trouble.Obstacle.TheVariants as obstacle
use Rattle.owed_texts.specs.declared.trouble.TextTrouble.{TextTrouble}
use Rattle.owed_texts.specs.Trouble.{IsOf}
use Rattle.owed_texts.specs.Within.{IsFailing}
use Rattle.owed_texts.specs.declared.home.OwnTexts.{OwnTexts}
use Rattle.owed_texts.specs.declared.home.OwnTexts.TheVariants as own
use Rattle.owed_texts.specs.declared.own.Reading.{Reading}
use Rattle.owed_texts.specs.All.{AreAllOwn}
use Rattle.owed_texts.specs.Own.{Read}
use Rattle.notice_told.specs.declared.lacks.GeneralText.{GeneralText}
use Rattle.notice_told.specs.declared.packages.Package.{Package}
use Rattle.notice_told.specs.declared.page.Look.{Look}
use Rattle.notice_told.specs.declared.page.NoticeFault.TheVariants as fault
use Rattle.notice_told.specs.declared.page.NoticeText.{NoticeText}
use Rattle.notice_told.specs.Lacks.{Lacked, lacks_in}
use Rattle.notice_told.specs.Page.{IsNotice, IsNoticeFault}
use Rattle.notice_program.specs.declared.end.End.{End}
use Rattle.notice_program.specs.declared.end.End.TheVariants as end
use Rattle.notice_program.specs.declared.end.ToldPage.{ToldPage}
use Rattle.notice_program.specs.declared.end.Request.{Request}
use Rattle.owed_texts.specs.declared.held.HeldTexts.{HeldTexts}
use Rattle.owed_texts.specs.declared.held.TextFolder.{TextFolder}
use Rattle.owed_texts.specs.Held.{AreHeld, Text, each_first, held_of}
use Rattle.notice_program.specs.Noted.{AreSorted, Noted, noted_by, noted_in}
use Rattle.notice_program.specs.Taken.{Taken, owner}
use Rattle.notice_program.specs.Told.{IsTold, has_own}

-- ---- the page

abbrev pub look_of : Request → Look
look_of a = record { format = a.format; marks_general = has_own a.folders.own }

-- the page has the packages and these general texts, or a text on it is no UTF-8
pub data IsHeldEnd (a : Request) (packages : List Package) (held : List Text) : End → Type 0 where
  told : (general : List GeneralText) (text : NoticeText) {n : ToldPage} → AreSorted held general →
      IsNotice (look_of a) packages general text → IsTold a text n →
      IsHeldEnd a packages held (end.Told n)
  not_utf8 : (general : List GeneralText) {name : String Global} → AreSorted held general →
      IsNoticeFault (look_of a) packages general (fault.NotUtf8 name) →
      IsHeldEnd a packages held (end.NotUtf8 name)

-- ---- general texts

-- there is none
abbrev pub is_none : {A : Type 0} → List A → Bool
is_none [] = true
is_none (x ∷ xs) = false

abbrev pub folder_of : Request → Bor (List ℕ) → TextFolder
folder_of a path = record {
  path = path;
  follow = a.folders.follow;
  may_lack = has_own a.folders.own;
  plain = a.plain;
}

-- what the folder has of the texts of these names; where none is named, there is nothing
abbrev pub AreGeneralBy : Shelved → Request → Option (Bor (List ℕ)) → List (List ℕ) → HeldTexts →
    Type 0
AreGeneralBy s a None names held = (held.texts.items ≡ []) × (held.lacking.items ≡ [])
AreGeneralBy s a (Some path) names held = AreHeld s (folder_of a path) names held

abbrev pub AreGeneral : Shelved → Request → List (List ℕ) → HeldTexts → Type 0
AreGeneral s a names held = AreGeneralBy s a a.folders.texts names held

-- the names of the texts that the packages lack, each once
abbrev pub lacked_in : List Package → List (List ℕ)
lacked_in packages = each_first (map (λ (l : Lacked). l.text) (lacks_in packages))

-- the general texts are had of all that the packages lack, or the troubles are told
pub data IsPackagesEnd (s : Shelved) (a : Request) (packages : List Package) : End → Type 0 where
  page : {e : End} (held : HeldTexts) → AreGeneral s a (lacked_in packages) held →
      held.lacking.items ≡ [] → IsHeldEnd a packages (map held_of held.texts.items) e →
      IsPackagesEnd s a packages e
  no_general : (held : HeldTexts) → AreGeneral s a (lacked_in packages) held →
      held.lacking.items ≢ [] → IsPackagesEnd s a packages (end.NoGeneral held.lacking)

-- the same of packages that are these, wherever their texts lie
abbrev pub IsNotedEnd : Shelved → Request → List Noted → End → Type 0
IsNotedEnd s a noted e =
    (packages : List Package) × (map noted_by packages ≡ noted) × IsPackagesEnd s a packages e

-- ---- packages' own texts

abbrev pub reading_of : Request → Reading
reading_of a = record { folders = a.folders; source = a.wanted.source; plain = a.plain }

-- their own files are had that are owed, or the troubles are told of all packages
pub data IsPlacedEnd (s : Shelved) (a : Request) (taken : List Taken) : End → Type 0 where
  noted : {e : End} (reads : List (List Read)) →
      AreAllOwn s (reading_of a) (map owner taken) reads [] →
      IsNotedEnd s a (noted_in taken reads) e → IsPlacedEnd s a taken e
  no_own : {ts : Vec TextTrouble} (reads : List (List Read)) →
      AreAllOwn s (reading_of a) (map owner taken) reads ts.items → ts.items ≢ [] →
      IsPlacedEnd s a taken (end.NoOwn ts)

-- ---- the folder of all packages

abbrev pub IsFolderThere : Shelved → OwnTexts → Type 0
IsFolderThere s (own.Below all) = s.IsFolder all.now true
IsFolderThere s own.Left = Unit {0}
IsFolderThere s own.Installed = Unit {0}

-- there is none, or it can't be looked at
abbrev pub IsNoFolderAt : Shelved → List ℕ → TextTrouble → Type 0
IsNoFolderAt s path t =
    IsFailing s to_look path path t ⊎ (s.IsFolder path false × IsOf path path obstacle.NoFolder t)

abbrev pub IsNoFolder : Shelved → OwnTexts → TextTrouble → Type 0
IsNoFolder s (own.Below all) t = IsNoFolderAt s all.now t
IsNoFolder s own.Left t = ⊥
IsNoFolder s own.Installed t = ⊥

pub data IsChosenEnd (s : Shelved) (a : Request) (taken : List Taken) : End → Type 0 where
  placed : {e : End} → IsFolderThere s a.folders.own → IsPlacedEnd s a taken e →
      IsChosenEnd s a taken e
  no_folder : {t : TextTrouble} → IsNoFolder s a.folders.own t →
      IsChosenEnd s a taken (end.NoFolder t)
