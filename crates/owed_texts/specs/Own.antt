-- The texts that packages have of their own.
use Rattle.std.specs.Prelude.{◌≡◌, ℕ, Bool, true, false, List, [], ◌∷◌, ◌++◌, Option, None, Some, String, bytes_eq, flat_map, map, string_bytes, if◌then◌else◌}
use Rattle.std.specs.List.{list_any}
use Rattle.std.specs.Option.{option_to_list}
use Rattle.std.specs.declared.alloc.Global.{Global}
use Rattle.shelves.specs.Shelf.{Shelved}
use Rattle.license_notice.specs.Wanted.{texts_of}
use Rattle.package_items.specs.declared.package.Package.{Package}
use Rattle.package_sources.specs.declared.form.Form.{Form}
use Rattle.notice_texts.specs.Owed.{Seen, owed}
use Rattle.owed_texts.specs.declared.home.Home.{Home}
use Rattle.owed_texts.specs.declared.own.OwnFiles.{OwnFiles}
use Rattle.owed_texts.specs.declared.own.Placed.{Placed}
use Rattle.owed_texts.specs.declared.own.Reading.{Reading}
use Rattle.owed_texts.specs.declared.own.ReadFile.{ReadFile}
use Rattle.owed_texts.specs.declared.trouble.Obstacle.TheVariants as obstacle
use Rattle.owed_texts.specs.declared.trouble.TextTrouble.{TextTrouble}
use Rattle.package_items.specs.Each.{AreHad}
use Rattle.owed_texts.specs.Home.{IsHome, IsNoHome, place_in}
use Rattle.owed_texts.specs.LicenseFiles.{AreDeclared, form_read, place_of}
use Rattle.owed_texts.specs.Names.{AreNames, AreNoNames}
use Rattle.owed_texts.specs.Plain.{plain_if}
use Rattle.owed_texts.specs.Trouble.{IsOf}
use Rattle.owed_texts.specs.Within.{IsReadWithin, IsUnreadWithin}

-- ---- whose they are

-- a package as it is told, the file that lists it, and the names of the texts that its expression
-- and its choice want
pub record Owner : Type 0 where
  pub name : List ℕ
  pub path : List ℕ
  pub guessed : Option Form
  pub of : Package
  pub offered : List (List ℕ)
  pub chosen : List (List ℕ)

abbrev pub owner_of : Placed → Owner
owner_of x = record {
  name = x.name.now;
  path = string_bytes x.file.now.path;
  guessed = x.file.now.guessed;
  of = x.listed.now;
  offered = flat_map texts_of x.offered.now;
  chosen = flat_map texts_of x.choice.now;
}

-- ---- which files there are

abbrev pub as_declared : List ℕ → Seen
as_declared path = record { path = path; is_declared = true }

abbrev pub is_among : List (List ℕ) → List ℕ → Bool
is_among paths name = list_any (λ path. bytes_eq path name) paths

abbrev pub unless_declared : List (List ℕ) → List ℕ → List Seen
unless_declared declared name =
    if is_among declared name then [] else (record { path = name; is_declared = false }) ∷ []

-- those that are declared, and then the others
abbrev pub listed : List (List ℕ) → List (List ℕ) → List Seen
listed names declared = map as_declared declared ++ flat_map (unless_declared declared) names

-- those that are owed to who gets the package under its choice
abbrev pub owed_by : Owner → List Seen → List Seen
owed_by x files = owed x.offered x.chosen files

-- ---- what they hold

-- a file, and what of it is shown
pub record Read : Type 0 where
  pub path : List ℕ
  pub is_declared : Bool
  pub bytes : List ℕ

abbrev pub read_of : ReadFile → Read
read_of f =
    record { path = string_bytes f.path; is_declared = f.is_declared; bytes = f.bytes.items }

abbrev pub HasBytesAt : Shelved → Home → Option (List ℕ) → List ℕ → Type 0
HasBytesAt s h None bytes = ⊥
HasBytesAt s h (Some path) bytes = IsReadWithin s (Some (string_bytes h.inside)) path bytes

-- the file of that path below the package's folder holds the bytes
abbrev pub HasBytes : Shelved → Home → List ℕ → List ℕ → Type 0
HasBytes s h path bytes = HasBytesAt s h (place_in (string_bytes h.folder) path) bytes

abbrev pub HasNoBytesAt : Shelved → List ℕ → Home → List ℕ → Option (List ℕ) → TextTrouble → Type 0
HasNoBytesAt s name h path None t = IsOf name path obstacle.NoPath t
HasNoBytesAt s name h path (Some whole) t =
    IsUnreadWithin s name (Some (string_bytes h.inside)) whole t

abbrev pub HasNoBytes : Shelved → List ℕ → Home → List ℕ → TextTrouble → Type 0
HasNoBytes s name h path t = HasNoBytesAt s name h path (place_in (string_bytes h.folder) path) t

-- an empty file says nothing
abbrev pub read_in : Bool → Seen → List ℕ → Option Read
read_in plain f [] = None
read_in plain f (b ∷ bytes) =
    Some (record { path = f.path; is_declared = f.is_declared; bytes = plain_if plain (b ∷ bytes) })

abbrev pub IsFile : Shelved → Bool → Home → Seen → Option Read → Type 0
IsFile s plain h f read =
    (bytes : List ℕ) × HasBytes s h f.path bytes × (read ≡ read_in plain f bytes)

abbrev pub IsNoFile : Shelved → List ℕ → Home → Seen → TextTrouble → Type 0
IsNoFile s name h f t = HasNoBytes s name h f.path t

-- each of the files is read, or told
pub record AreRead (s : Shelved) (plain : Bool) (name : List ℕ) (h : Home) (files : List Seen)
    (own : OwnFiles) : Type 0 where
  pub reads : List (Option Read)
  pub each : AreHad (IsFile s plain h) (IsNoFile s name h) files reads own.lacking.items
  pub kept : map read_of own.files.items ≡ flat_map option_to_list reads

abbrev pub IsOneMore : Shelved → Bool → List ℕ → Home → Seen → OwnFiles → OwnFiles → Type 0
IsOneMore s plain name h f old new =
    (files : List Seen) → AreRead s plain name h files old →
    AreRead s plain name h (files ++ f ∷ []) new

-- ---- of a package

-- of the files with these names, and those that the package declares
pub record AreOwnAmong (s : Shelved) (a : Reading) (x : Owner) (h : Home)
    (names : List (List ℕ)) (own : OwnFiles) : Type 0 where
  pub declared : List (List ℕ)
  pub declares : AreDeclared s (place_of (form_read a.source x.guessed) a.folders.own)
      (string_bytes h.folder) (map string_bytes x.of.license_files.items) declared
  pub read : AreRead s a.plain x.name h (owed_by x (listed names declared)) own

-- of the package in the folder
pub data AreOwnIn (s : Shelved) (a : Reading) (x : Owner) (h : Home) (own : OwnFiles) :
    Type 0 where
  among : (names : List (String Global)) → AreNames s (string_bytes h.folder) names →
      AreOwnAmong s a x h (map string_bytes names) own → AreOwnIn s a x h own
  unnamed : (t : TextTrouble) → AreNoNames s x.name (string_bytes h.folder) t →
      own.files.items ≡ [] → own.lacking.items ≡ t ∷ [] → AreOwnIn s a x h own

-- the files of the package that are owed, and why others aren't had
pub data AreOwn (s : Shelved) (a : Reading) (x : Owner) (own : OwnFiles) : Type 0 where
  homeless : IsHome s a.folders x.path x.of None →
      own.files.items ≡ [] → own.lacking.items ≡ [] → AreOwn s a x own
  lost : (t : TextTrouble) →
      IsNoHome s a.folders x.name x.path x.of t →
      own.files.items ≡ [] → own.lacking.items ≡ t ∷ [] → AreOwn s a x own
  lies : (h : Home) → IsHome s a.folders x.path x.of (Some h) →
      AreOwnIn s a x h own → AreOwn s a x own
