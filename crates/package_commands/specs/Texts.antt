-- What is told of texts that aren't had.
use Rattle.std.specs.Prelude.{◌≡◌, ℕ, List, ◌++◌, String, codes, string_bytes}
use Rattle.std.specs.declared.alloc.Global.{Global}
use Rattle.std.specs.IoError.{error_kind}
use Rattle.std.specs.List.{AllZip}
use Rattle.std.specs.declared.io.Error.{Error}
use Rattle.std.specs.declared.io.ErrorKind.{ErrorKind}
use Rattle.std.specs.declared.io.ErrorKind.TheVariants as kind
use Rattle.spdx_troubles.specs.Causes.{of_path}
use Rattle.spdx_troubles.specs.declared.trouble.Trouble.{Trouble}
use Rattle.spdx_troubles.specs.declared.trouble.Trouble.TheVariants as trouble
use Rattle.owed_texts.specs.declared.trouble.Obstacle.{Obstacle}
use Rattle.owed_texts.specs.declared.trouble.Obstacle.TheVariants as obstacle
use Rattle.owed_texts.specs.declared.trouble.TextTrouble.{TextTrouble}

-- ---- a text

-- the text of this name isn't had, for that of the path
pub data IsRefused (name : String Global) (path why : List ℕ) : Trouble → Type 0 where
  is_refused : {told : String Global} → string_bytes told ≡ path ++ (codes ": " ++ why) →
      IsRefused name path why (trouble.Text name told)

-- whatever the system says
abbrev pub IsUnreadText : String Global → List ℕ → Trouble → Type 0
IsUnreadText name path t = (error : List ℕ) × IsRefused name path error t

-- what can't be read is told of the text, and any other trouble by itself
abbrev pub IsUnreadAs : String Global → Trouble → Trouble → Type 0
IsUnreadAs name (trouble.Unreadable path e) t = IsUnreadText name (string_bytes path) t
IsUnreadAs name other t = t ≡ other

-- the path gave this error
abbrev pub IsUnread : String Global → String Global → Error → Trouble → Type 0
IsUnread name path e t = IsUnreadAs name (of_path path e) t

-- it gave one of this kind
abbrev pub IsUnreadOf : String Global → String Global → ErrorKind → Trouble → Type 0
IsUnreadOf name path k t = (e : Error) × (error_kind e ≡ k) × IsUnread name path e t

-- what stands in the way of the text; of a link that leads out of the folder this is told
abbrev pub IsObstacleTold : List ℕ → String Global → String Global → Obstacle → Trouble → Type 0
IsObstacleTold link name path (obstacle.Unreadable e) t = IsUnread name path e t
IsObstacleTold link name path obstacle.Unnamed t = IsUnreadOf name path kind.InvalidFilename t
IsObstacleTold link name path obstacle.NoFolder t = IsUnreadOf name path kind.NotADirectory t
IsObstacleTold link name path obstacle.Special t =
    IsRefused name (string_bytes path) (codes "no regular file") t
IsObstacleTold link name path obstacle.LeadsOut t = IsRefused name (string_bytes path) link t
IsObstacleTold link name path obstacle.NoPath t =
    IsRefused name (string_bytes path) (codes "a path out of the folder") t
IsObstacleTold link name path obstacle.Empty t =
    IsRefused name (string_bytes path) (codes "empty") t

abbrev pub IsTextTold : List ℕ → TextTrouble → Trouble → Type 0
IsTextTold link x t = IsObstacleTold link x.name x.path x.why t

-- each of them is told
abbrev pub AreTextsTold : List ℕ → List TextTrouble → List Trouble → Type 0
AreTextsTold link xs told = AllZip (IsTextTold link) xs told

-- it is no UTF-8, where the page is
pub data IsNotUtf8 (name : String Global) : Trouble → Type 0 where
  not_utf8 : {told : String Global} →
      string_bytes told ≡ codes "is no UTF-8, which pages of HTML and of JSON are" →
      IsNotUtf8 name (trouble.Text name told)

-- ---- the folder of all packages

-- it can't be looked at, or it is none
abbrev pub IsFolderTold : String Global → Obstacle → Trouble → Type 0
IsFolderTold path (obstacle.Unreadable e) t = t ≡ of_path path e
IsFolderTold path other t =
    (e : Error) × (error_kind e ≡ kind.NotADirectory) × (t ≡ of_path path e)
