-- The line of a trouble.
use Rattle.std.specs.Prelude.{◌≡◌, ℕ, List, [], ◌∷◌, ◌++◌, Option, Some, None, codes, string_bytes, unwrap_or}
use Rattle.std.specs.Fmt.{decimal}
use Rattle.foreign_text.specs.Read.{IsSafe}
use Rattle.foreign_text.specs.Written.{text_for}
use Rattle.foreign_text.specs.declared.sinks.Sink.TheVariants.{Line}
use Rattle.package_items.specs.Faults.{fault_text, shown}
use Rattle.spdx_catalogue.specs.Faults.{read_text}
use Rattle.spdx_list.specs.Faults.{list_fault_text}
use Rattle.spdx_policy.specs.Told.{policy_fault_text}
use Rattle.spdx_troubles.specs.declared.trouble.Trouble.{Trouble}
use Rattle.spdx_troubles.specs.declared.trouble.Trouble.TheVariants as trouble

-- the file, package or name that it is about
abbrev pub name_of : Trouble → List ℕ
name_of (trouble.Unreadable n e) = string_bytes n
name_of (trouble.NotUtf8 n) = string_bytes n
name_of (trouble.Unnamed n count) = string_bytes n
name_of (trouble.Folder n) = string_bytes n
name_of (trouble.Broken n) = string_bytes n
name_of (trouble.List n fault) = string_bytes n
name_of (trouble.Made n fault) = string_bytes n
name_of trouble.Nameless = codes "SPDX_LIST"
name_of (trouble.NoExtras fault) = codes "the extras inside"
name_of (trouble.Source n fault) = string_bytes n
name_of (trouble.Manifest n why line) = string_bytes n
name_of (trouble.NoManifest n) = string_bytes n
name_of (trouble.Empty n) = string_bytes n
name_of (trouble.Policy n fault) = string_bytes n
name_of (trouble.Accepted n why) = string_bytes n
name_of (trouble.NoPackage n) = string_bytes n
name_of (trouble.NoChoice n why) = string_bytes n
name_of (trouble.Unmeant n why) = string_bytes n
name_of (trouble.Text n why) = string_bytes n
name_of (trouble.NoText n text) = string_bytes n
name_of (trouble.Unlisted n told) = string_bytes n
name_of (trouble.Unwritable n e) = string_bytes n
name_of (trouble.Changed n) = string_bytes n
name_of (trouble.Linked n) = string_bytes n
name_of (trouble.Owner n e) = string_bytes n
name_of (trouble.Lost n) = string_bytes n
name_of (trouble.Guessed n form) = string_bytes n
name_of (trouble.LeftBehind n) = string_bytes n
name_of (trouble.Shared names) = string_bytes names
name_of (trouble.Special n) = string_bytes n
name_of (trouble.Above n) = string_bytes n
name_of trouble.Output = []
name_of trouble.Memory = []

-- the reason that was given with it
abbrev pub given_of : Trouble → List ℕ
given_of (trouble.Accepted n why) = string_bytes why
given_of (trouble.NoChoice n why) = string_bytes why
given_of (trouble.Unmeant n why) = string_bytes why
given_of (trouble.Text n why) = string_bytes why
given_of (trouble.NoText n text) = string_bytes text
given_of (trouble.Unlisted n told) = string_bytes told
given_of _ = []

-- what stands before the name
abbrev pub before : Trouble → List ℕ
before (trouble.Accepted n why) = codes "--accept: "
before (trouble.NoPackage n) = codes "--explain: no package "
before (trouble.Empty n) = codes "no packages in "
before (trouble.Text n why) = codes "the text of "
before trouble.Output = codes "write fault"
before trouble.Memory = codes "out of memory"
before _ = []

-- what stands behind the name where that is always the same
abbrev pub words : Trouble → Option (List ℕ)
words (trouble.NotUtf8 n) = Some (codes ": a name that is no UTF-8 can't be opened")
words (trouble.Folder n) = Some (codes ": a folder, where a file is wanted")
words (trouble.Broken n) = Some (codes ": read fault")
words (trouble.NoManifest n) =
    Some (codes ": no manifest by its name; --as FORM reads it as one")
words (trouble.Special n) = Some (codes ": no regular file; left as it is")
words (trouble.Above n) =
    Some (codes ": no diff names a file above its folder; run spdx there, or use --write")
words (trouble.Changed n) = Some (codes ": it changed since it was read; left as it is")
words (trouble.Linked n) = Some
    (codes ": it has other names, which would keep the old bytes; left as it is: see --break-links")
words (trouble.Lost n) = Some (codes ": it doesn't run as its owner or group any more")
words (trouble.LeftBehind n) =
    Some (codes ": left by a run that was killed; it may be removed, unless one is at work")
words (trouble.Shared names) =
    Some (codes ": in several documents, each of which may mean another licence by it")
words _ = None

-- what stands behind it else: the reason that was given, what the system says, or a fault
abbrev pub reason : List ℕ → List ℕ → Trouble → List ℕ
reason given error (trouble.Unreadable n e) = codes ": " ++ error
reason given error trouble.Nameless = codes ": " ++ error
reason given error (trouble.Unwritable n e) = codes ": not written: " ++ error
reason given error (trouble.Owner n e) =
    codes ": its owner or group can't be kept: " ++ (error ++ codes "; left as it is")
reason given error (trouble.Unnamed n count) =
    codes ": left out: " ++ (decimal count ++ codes " with a name that is no UTF-8")
reason given error (trouble.List n fault) = codes ": no list: " ++ read_text fault
reason given error (trouble.Made n fault) = codes ": no list: " ++ list_fault_text fault
reason given error (trouble.NoExtras fault) = codes ": no list: " ++ list_fault_text fault
reason given error (trouble.Source n fault) = codes ": " ++ fault_text fault
reason given error (trouble.Manifest n why line) =
    codes ": line " ++ (decimal line ++ (codes ": " ++ (why.now ++ codes "; left as it is")))
reason given error (trouble.Policy n fault) = codes ": " ++ policy_fault_text fault
reason given error (trouble.Accepted n why) = codes ": " ++ given
reason given error (trouble.NoChoice n why) = codes ": " ++ given
reason given error (trouble.Unmeant n why) = codes ": " ++ given
reason given error (trouble.Text n why) = codes ": " ++ given
reason given error (trouble.NoText n text) = codes ": no text of " ++ given
reason given error (trouble.Unlisted n told) = codes ": not in the list" ++ given
reason given error (trouble.Guessed n form) = codes ": read as " ++ form.now
reason given error _ = []

abbrev pub behind : List ℕ → List ℕ → Trouble → List ℕ
behind given error t = unwrap_or (words t) (reason given error t)

-- of what it is, and why; the error is what the system says, where it has said anything
abbrev pub told : List ℕ → Trouble → List ℕ
told error t =
    before t ++ (text_for Line (name_of t) ++ behind (text_for Line (given_of t)) error t)

abbrev pub line_with : List ℕ → Trouble → List ℕ
line_with error t = codes "spdx: " ++ (shown (told error t) ++ 10 ∷ [])

-- the line of a trouble, whatever the system says of it
abbrev pub IsLineOf : Trouble → List ℕ → Type 0
IsLineOf t line = (error : List ℕ) × (line ≡ line_with error t)

-- one line, of which a terminal shows each character and obeys none
pub record IsOneLine (line : List ℕ) : Type 0 where
  pub front : List ℕ
  pub ends : line ≡ front ++ 10 ∷ []
  pub is_shown : IsSafe Line front
