-- What a shelf of values tells: what stands in it.
use Rattle.std.specs.Prelude.{◌≡◌, ◌⊎◌, ℕ, Bool, true, false, List, Option, None, Some, map, option_map, find, bytes_eq, string_bytes, length}
use Rattle.std.specs.List.{list_any}
use Rattle.std.specs.IoError.{error_kind}
use Rattle.std.specs.declared.io.Error.{Error}
use Rattle.std.specs.declared.io.ErrorKind.TheVariants.{NotFound, OutOfMemory}
use Rattle.shelves.specs.declared.held.Held.{Held}
use Rattle.shelves.specs.declared.held.HeldFile.{HeldFile}
use Rattle.shelves.specs.declared.held.HeldFolder.{HeldFolder}
use Rattle.shelves.specs.declared.held.HeldVariable.{HeldVariable}
use Rattle.shelves.specs.declared.held.HeldLink.{HeldLink}
use Rattle.shelves.specs.declared.shelf.Kind.{Kind}
use Rattle.shelves.specs.declared.shelf.Kind.TheVariants as kind
use Rattle.shelves.specs.Shelf.{Access, Named, Shelved, entry_of, to_follow, to_list, to_look, to_open, to_read}

-- the bytes of the first file of that path
abbrev pub bytes_at : List HeldFile → List ℕ → Option (List ℕ)
bytes_at files path =
    option_map (λ (f : HeldFile). f.bytes.items)
    (find (λ (f : HeldFile). bytes_eq (string_bytes f.path) path) files)

-- what the first variable of that name says
abbrev pub says : List HeldVariable → List ℕ → Option (List ℕ)
says variables name =
    option_map (λ (v : HeldVariable). string_bytes v.text)
    (find (λ (v : HeldVariable). bytes_eq (string_bytes v.name) name) variables)

abbrev pub has_folder : List HeldFolder → List ℕ → Bool
has_folder folders path = list_any (λ (f : HeldFolder). bytes_eq (string_bytes f.path) path) folders

-- what is in the first folder of that path
abbrev pub entries_at : List HeldFolder → List ℕ → Option (List Named)
entries_at folders path =
    option_map (λ (f : HeldFolder). map entry_of f.entries.items)
    (find (λ (f : HeldFolder). bytes_eq (string_bytes f.path) path) folders)

-- where the first link of that path leads, else the path
abbrev pub real_of : Option HeldLink → List ℕ → List ℕ
real_of None path = path
real_of (Some link) path = string_bytes link.to

abbrev pub real_path : List HeldLink → List ℕ → List ℕ
real_path links path = real_of (find (λ (l : HeldLink). bytes_eq (string_bytes l.path) path) links) path

-- what is where these bytes are, or none, and where a folder is, or not
abbrev pub kind_of : Option (List ℕ) → Bool → Option Kind
kind_of (Some bytes) is_folder = Some kind.File
kind_of None true = Some kind.Folder
kind_of None false = None

abbrev pub kind_at : Held → List ℕ → Option Kind
kind_at shelf path = kind_of (bytes_at shelf.files.items path) (has_folder shelf.folders.items path)

-- what is wanted isn't there
abbrev pub Lacks : Held → Access → List ℕ → Type 0
Lacks shelf to_read path = bytes_at shelf.files.items path ≡ None
Lacks shelf to_open path = bytes_at shelf.files.items path ≡ None
Lacks shelf to_look path = kind_at shelf path ≡ None
Lacks shelf to_list path = entries_at shelf.folders.items path ≡ None
Lacks shelf to_follow path = ⊥

-- memory was refused, or what is wanted isn't there
abbrev pub IsFault : Held → Access → List ℕ → Error → Type 0
IsFault shelf access path error = (error_kind error ≡ OutOfMemory) ⊎
    ((error_kind error ≡ NotFound) × Lacks shelf access path)

-- a file is known by its length alone, and nothing breaks off
abbrev pub shelved : Held → Shelved
shelved shelf = record {
  Holds = λ path bytes. bytes_at shelf.files.items path ≡ Some bytes;
  HoldsAs = λ path bytes stamp.
      (bytes_at shelf.files.items path ≡ Some bytes) × (stamp.length ≡ length bytes);
  IsFolder = λ path is. has_folder shelf.folders.items path ≡ is;
  IsOf = λ path kind. kind_at shelf path ≡ Some kind;
  Lists = λ path entries unnamed.
      (entries_at shelf.folders.items path ≡ Some entries) × (unnamed ≡ 0);
  IsReal = λ path real. real_path shelf.links.items path ≡ real;
  Fails = λ access path error. IsFault shelf access path error;
  Breaks = λ path. ⊥;
  Says = λ name text. says shelf.variables.items name ≡ text;
  IsNoText = λ name. ⊥;
  IsInput = λ bytes. shelf.input.items ≡ bytes;
  InputFails = λ error. error_kind error ≡ OutOfMemory;
  InputBreaks = ⊥;
}
