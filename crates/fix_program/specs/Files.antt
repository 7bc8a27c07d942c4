-- What is done with a file.
use Rattle.std.specs.Prelude.{◌≡◌, ◌⊎◌, ℕ, Bool, true, false, ◌&&◌, List, Option, None, Some, is_some, bytes_eq, codes, string_bytes, if◌then◌else◌}
use Rattle.std.specs.Global.{Vec}
use Rattle.std.specs.declared.io.Error.{Error}
use Rattle.shelves.specs.AtPath.{IsContent, is_input, told_path}
use Rattle.shelves.specs.Shelf.{Shelved, to_look, to_read}
use Rattle.shelves.specs.declared.shelf.Kind.{Kind}
use Rattle.shelves.specs.declared.shelf.Kind.TheVariants as kind
use Rattle.shelves.specs.declared.shelf.Stamp.{Stamp}
use Rattle.spdx_requirement.specs.Rows.{Rows}
use Rattle.line_diff.specs.Diff.{diff_of, rows_of}
use Rattle.fix_program.specs.Diffs.{diff_name}
use Rattle.file_fixes.specs.Fixing.{bytes_after}
use Rattle.file_fixes.specs.Accepted.{Reads}
use Rattle.file_fixes.specs.Mended.{IsMended, IsUnmended}
use Rattle.fix_program.specs.declared.file.Deed.{Deed}
use Rattle.fix_program.specs.declared.file.Deed.TheVariants as deed
use Rattle.fix_program.specs.declared.file.Fixed.{Fixed}
use Rattle.file_fixes.specs.declared.mended.MendError.TheVariants as error
use Rattle.file_fixes.specs.declared.mended.Outcome.{Outcome}
use Rattle.file_fixes.specs.declared.mended.Parts.{Parts}
use Rattle.fix_program.specs.declared.trouble.FixTrouble.{FixTrouble}
use Rattle.fix_program.specs.declared.trouble.FixTrouble.TheVariants as trouble

-- ---- what is read

-- a device or a pipe
abbrev pub is_special : Kind → Bool
is_special kind.Other = true
is_special _ = false

abbrev pub IsRegular : Shelved → List ℕ → Type 0
IsRegular s path = (k : Kind) × s.IsOf path k × (is_special k ≡ false)

-- nothing is asked of standard input, nor of a file that isn't written
abbrev pub IsWritable : Bool → Bool → Shelved → List ℕ → Type 0
IsWritable true false s path = IsRegular s path
IsWritable true true s path = Unit {0}
IsWritable false input s path = Unit {0}

-- what is read of the path, and where files are written it is no special file
pub record IsRead (s : Shelved) (is_written : Bool) (path bytes : List ℕ) : Type 0 where
  pub content : IsContent s path bytes
  pub writable : IsWritable is_written (is_input path) s path

-- by what the file at the path is known to hold these bytes; standard input is known by nothing
abbrev pub IsKnown : Bool → Shelved → List ℕ → List ℕ → Stamp → Type 0
IsKnown true s path bytes stamp = Unit {0}
IsKnown false s path bytes stamp = s.HoldsAs path bytes stamp

-- it can't be read, as it is told; nothing is said of memory
abbrev pub IsUnreadAs : List ℕ → (Error → Type 0) → FixTrouble → Type 0
IsUnreadAs name fails (trouble.Unreadable n e) = (string_bytes n ≡ name) × fails e
IsUnreadAs name fails trouble.Memory = Unit {0}
IsUnreadAs name fails t = ⊥

-- it can't be looked at or read, or is a special file
abbrev pub IsNotRegular : Shelved → List ℕ → FixTrouble → Type 0
IsNotRegular s path (trouble.Unreadable n e) =
    (string_bytes n ≡ path) × (s.Fails to_look path e ⊎ s.Fails to_read path e)
IsNotRegular s path (trouble.Special n) = (string_bytes n ≡ path) × s.IsOf path kind.Other
IsNotRegular s path trouble.Memory = Unit {0}
IsNotRegular s path t = ⊥

abbrev pub IsUnreadBy : Bool → Bool → Shelved → List ℕ → FixTrouble → Type 0
IsUnreadBy input true s path t = IsUnreadAs (codes "<stdin>") s.InputFails t
IsUnreadBy true false s path t = IsNotRegular s path t
IsUnreadBy false false s path t = IsUnreadAs path (s.Fails to_read path) t

-- why it isn't read
abbrev pub IsUnread : Shelved → Bool → List ℕ → FixTrouble → Type 0
IsUnread s is_written path t = IsUnreadBy is_written (is_input path) s path t

-- ---- what becomes of it

-- the path under which it is read: standard input has none where it is put out as it is mended
abbrev pub read_as : Bool → List ℕ → List ℕ
read_as is_written path = if is_written then told_path path else path

-- it is no manifest of its form
abbrev pub IsUnmendedAs : Rows → Parts → List ℕ → List ℕ → FixTrouble → Type 0
IsUnmendedAs c p name bytes (trouble.Manifest n f) =
    (string_bytes n ≡ name) × IsUnmended c p bytes (error.Manifest f)
IsUnmendedAs c p name bytes trouble.Memory = Unit {0}
IsUnmendedAs c p name bytes t = ⊥

-- ---- what is done

-- this is put out
abbrev pub Puts : List ℕ → Deed → Type 0
Puts text (deed.Put t) = t.items ≡ text
Puts text d = ⊥

-- the diff of the old bytes and the new ones is put out, under the path's name; nothing is where
-- nothing is mended
abbrev pub IsDiff : List ℕ → List ℕ → Option (Vec ℕ) → Deed → Type 0
IsDiff path old None d = d ≡ deed.Nothing
IsDiff path old (Some new) d =
    (name : List ℕ) × (diff_name path ≡ Some name) × Puts (diff_of name (rows_of old new.items)) d

-- these parts of the file at the path are mended, and it is to hold the new bytes; it stays where
-- nothing is mended
abbrev pub IsFileReplacement : Parts → List ℕ → Option (Vec ℕ) → Deed → Type 0
IsFileReplacement p path (Some new) (deed.Replace r) =
    (string_bytes r.path ≡ path) × (r.parts ≡ p) × (r.bytes ≡ new)
IsFileReplacement p path (Some new) d = ⊥
IsFileReplacement p path None d = d ≡ deed.Nothing

abbrev pub IsDeedBy :
    Bool → Bool → Parts → List ℕ → List ℕ → Option (Vec ℕ) → Deed → Type 0
IsDeedBy false input p path old new d = IsDiff path old new d
IsDeedBy true true p path old new d = Puts (bytes_after old new) d
IsDeedBy true false p path old new d = IsFileReplacement p path new d

-- what is to take a file's place has this stamp; nothing takes the place of standard input
abbrev pub IsStampedBy : Bool → Stamp → Deed → Type 0
IsStampedBy true stamp (deed.Replace r) = ⊥
IsStampedBy false stamp (deed.Replace r) = r.stamp ≡ stamp
IsStampedBy input stamp d = Unit {0}

-- what is to take the file's place has that by which the file is known to hold these bytes
abbrev pub IsStamped : Shelved → List ℕ → List ℕ → Deed → Type 0
IsStamped s path bytes (deed.Replace r) = s.HoldsAs path bytes r.stamp
IsStamped s path bytes d = Unit {0}

-- what is done where these bytes, mended, are the new ones
abbrev pub IsDeed : Bool → Parts → List ℕ → List ℕ → Option (Vec ℕ) → Deed → Type 0
IsDeed is_written p path old new d = IsDeedBy is_written (is_input path) p path old new d

-- something is to be mended, and no diff can name the file
abbrev pub IsNoDiff : List ℕ → Option (Vec ℕ) → FixTrouble → Type 0
IsNoDiff path new (trouble.Above n) =
    (string_bytes n ≡ path) × (diff_name path ≡ None) × (is_some new ≡ true)
IsNoDiff path new trouble.Memory = Unit {0}
IsNoDiff path new t = ⊥

abbrev pub IsNoDeed : Bool → List ℕ → Option (Vec ℕ) → FixTrouble → Type 0
IsNoDeed false path new t = IsNoDiff path new t
IsNoDeed true path new t = t ≡ trouble.Memory

-- ---- a file

-- it is read, and what is done is what its mended bytes ask for
pub record IsFixedAt (s : Shelved) (c : Rows) (is_written : Bool) (p : Parts) (path : List ℕ)
    (fixed : Fixed) : Type 0 where
  pub bytes : List ℕ
  pub outcome : Outcome
  pub reads : IsRead s is_written path bytes
  pub mends : IsMended c p (read_as is_written path) bytes outcome
  pub does : IsDeed is_written p path bytes outcome.bytes fixed.deed
  pub stamped : IsStamped s path bytes fixed.deed
  pub left_is : fixed.is_left ≡ outcome.is_left

-- what is read is no manifest of its form
pub record IsUnmendedAt (s : Shelved) (c : Rows) (is_written : Bool) (p : Parts)
    (path : List ℕ) (t : FixTrouble) : Type 0 where
  pub bytes : List ℕ
  pub reads : IsRead s is_written path bytes
  pub fails : IsUnmendedAs c p (read_as is_written path) bytes t

-- what is read is to be mended, and no diff can name it
pub record IsUndoneAt (s : Shelved) (c : Rows) (is_written : Bool) (p : Parts)
    (path : List ℕ) (t : FixTrouble) : Type 0 where
  pub bytes : List ℕ
  pub outcome : Outcome
  pub reads : IsRead s is_written path bytes
  pub mends : IsMended c p (read_as is_written path) bytes outcome
  pub fails : IsNoDeed is_written path outcome.bytes t

-- why the file is left out; nothing is said of memory
abbrev pub IsNotFixed : Shelved → Rows → Bool → Parts → List ℕ → FixTrouble → Type 0
IsNotFixed s c w p path (trouble.Unreadable n e) = IsUnread s w path (trouble.Unreadable n e)
IsNotFixed s c w p path (trouble.Special n) = IsUnread s w path (trouble.Special n)
IsNotFixed s c w p path (trouble.Manifest n f) = IsUnmendedAt s c w p path (trouble.Manifest n f)
IsNotFixed s c w p path (trouble.Above n) = IsUndoneAt s c w p path (trouble.Above n)
IsNotFixed s c w p path trouble.Memory = Unit {0}
IsNotFixed s c w p path t = ⊥

-- ---- a law

-- each expression is accepted of what is read
abbrev pub AreAllRead : Shelved → Rows → Bool → Parts → List ℕ → Type 0
AreAllRead s c w p path =
    (bytes : List ℕ) → IsRead s w path bytes → Reads c p (read_as w path) bytes

abbrev pub is_replaced : Deed → Bool
is_replaced (deed.Replace r) = true
is_replaced _ = false

-- the file isn't written, and nothing is left in it
abbrev pub IsUntouched : Fixed → Type 0
IsUntouched fixed = (is_replaced fixed.deed ≡ false) × (fixed.is_left ≡ false)
