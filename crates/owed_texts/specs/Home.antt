-- The folders that packages lie in.
use Rattle.std.specs.Prelude.{◌≡◌, ◌⊎◌, ℕ, Bool, true, false, List, [], ◌++◌, Option, None, Some, codes, option_map, string_bytes, unwrap_or, if◌then◌else◌}
use Rattle.std.specs.Path.{path_join, path_parent}
use Rattle.std.specs.declared.io.Error.{Error}
use Rattle.shelves.specs.Shelf.{Shelved, to_look}
use Rattle.package_items.specs.declared.package.Package.{Package}
use Rattle.notice_texts.specs.Paths.{is_inside}
use Rattle.owed_texts.specs.declared.home.Folders.{Folders}
use Rattle.owed_texts.specs.declared.home.Home.{Home}
use Rattle.owed_texts.specs.declared.home.OwnTexts.{OwnTexts}
use Rattle.owed_texts.specs.declared.home.OwnTexts.TheVariants as own
use Rattle.owed_texts.specs.declared.trouble.Obstacle.TheVariants as obstacle
use Rattle.owed_texts.specs.declared.trouble.TextTrouble.{TextTrouble}
use Rattle.owed_texts.specs.Trouble.{IsOf, is_not_found}
use Rattle.owed_texts.specs.Within.{IsFailing, IsOutside, IsWithin}

-- a folder is there, or is none: nothing is there, or something else
abbrev pub IsFolderAt : Shelved → List ℕ → Bool → Type 0
IsFolderAt s path true = s.IsFolder path true
IsFolderAt s path false =
    s.IsFolder path false ⊎ ((e : Error) × s.Fails to_look path e × (is_not_found e ≡ true))

pub record IsHomeAt (folder inside : List ℕ) (h : Home) : Type 0 where
  pub folder_is : string_bytes h.folder ≡ folder
  pub inside_is : string_bytes h.inside ≡ inside

-- ---- below the folder of all

abbrev pub with_version : List ℕ → Option (List ℕ) → List ℕ
with_version name None = name
with_version name (Some version) = name ++ (codes "-" ++ version)

-- a package's name, and its version where it has one
abbrev pub folder_name : Package → List ℕ
folder_name p = with_version (string_bytes p.name) (option_map string_bytes p.version)

-- a name below a folder, if it stays there
abbrev pub place_in : List ℕ → List ℕ → Option (List ℕ)
place_in folder name =
    if is_inside name then Some (folder ++ (codes "/" ++ name)) else None

-- the folder is there, and not outside of the one of all; what is read of it stays in it, or with
-- links followed in the one of all
abbrev pub IsHomeIn : Shelved → Bool → List ℕ → List ℕ → Option Home → Type 0
IsHomeIn s follow all folder None = IsFolderAt s folder false
IsHomeIn s follow all folder (Some h) =
    IsFolderAt s folder true × IsWithin s all folder ×
    IsHomeAt folder (if follow then all else folder) h

abbrev pub IsHomeOf : Shelved → Bool → List ℕ → Option (List ℕ) → Option Home → Type 0
IsHomeOf s follow all None home = ⊥
IsHomeOf s follow all (Some folder) home = IsHomeIn s follow all folder home

-- the folder with the package's name and version
abbrev pub IsHomeBelow : Shelved → Bool → List ℕ → Package → Option Home → Type 0
IsHomeBelow s follow all p home = IsHomeOf s follow all (place_in all (folder_name p)) home

-- it can't be looked at, or leads out
abbrev pub IsNoHomeIn : Shelved → List ℕ → List ℕ → List ℕ → TextTrouble → Type 0
IsNoHomeIn s all name folder t = IsFailing s to_look name folder t ⊎ IsOutside s name all folder t

abbrev pub IsNoHomeOf : Shelved → List ℕ → List ℕ → List ℕ → Option (List ℕ) → TextTrouble →
    Type 0
IsNoHomeOf s all name own None t = IsOf name own obstacle.NoPath t
IsNoHomeOf s all name own (Some folder) t = IsNoHomeIn s all name folder t

abbrev pub IsNoHomeBelow : Shelved → List ℕ → List ℕ → Package → TextTrouble → Type 0
IsNoHomeBelow s all name p t =
    IsNoHomeOf s all name (folder_name p) (place_in all (folder_name p)) t

-- ---- where the file says it

-- a path, from the folder that the file is in
abbrev pub beside : List ℕ → List ℕ → List ℕ
beside file path = path_join (unwrap_or (path_parent file) []) path

abbrev pub IsHomeBeside : Shelved → List ℕ → Option Home → Type 0
IsHomeBeside s folder None = IsFolderAt s folder false
IsHomeBeside s folder (Some h) = IsFolderAt s folder true × IsHomeAt folder folder h

-- the folder that the file says, which begins beside the file; nothing is read out of it
abbrev pub IsHomeSaid : Shelved → List ℕ → Option (List ℕ) → Option Home → Type 0
IsHomeSaid s file None home = home ≡ None
IsHomeSaid s file (Some said) home = IsHomeBeside s (beside file said) home

abbrev pub IsNoHomeSaid : Shelved → List ℕ → List ℕ → Option (List ℕ) → TextTrouble → Type 0
IsNoHomeSaid s name file None t = ⊥
IsNoHomeSaid s name file (Some said) t = IsFailing s to_look name (beside file said) t

-- ---- either

abbrev pub IsHomeBy : Shelved → OwnTexts → Bool → List ℕ → Package → Option Home → Type 0
IsHomeBy s own.Left follow file p home = home ≡ None
IsHomeBy s (own.Below all) follow file p home = IsHomeBelow s follow all.now p home
IsHomeBy s own.Installed follow file p home =
    IsHomeSaid s file (option_map string_bytes p.folder) home

-- where the package of the file at that path lies
abbrev pub IsHome : Shelved → Folders → List ℕ → Package → Option Home → Type 0
IsHome s a file p home = IsHomeBy s a.own a.follow file p home

abbrev pub IsNoHomeBy : Shelved → OwnTexts → List ℕ → List ℕ → Package → TextTrouble → Type 0
IsNoHomeBy s own.Left name file p t = ⊥
IsNoHomeBy s (own.Below all) name file p t = IsNoHomeBelow s all.now name p t
IsNoHomeBy s own.Installed name file p t =
    IsNoHomeSaid s name file (option_map string_bytes p.folder) t

-- why it isn't known
abbrev pub IsNoHome : Shelved → Folders → List ℕ → List ℕ → Package → TextTrouble → Type 0
IsNoHome s a name file p t = IsNoHomeBy s a.own name file p t
