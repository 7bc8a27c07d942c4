-- What npm writes.
use Rattle.std.specs.Prelude.{ℕ, ◌==◌, Bool, true, false, not, ◌&&◌, ◌||◌, List, [], ◌∷◌, ◌++◌, length, Option, Some, None, Result, Ok, if◌then◌else◌, option_and_then, codes}
use Rattle.std.specs.Option.{is_some}
use Rattle.serde_json.specs.Data.{Data, null, boolean, string, array, object, Members, no_members, member}
use Rattle.serde_json.specs.Find.{get}
use Rattle.package_items.specs.Rows.{Fault, LicenseRow, ItemRow}
use Rattle.package_items.specs.Members.{on_ok, text_of, text_if_any, license_at}
use Rattle.package_items.specs.Items.{list_items, member_items, root_item}
use Rattle.package_items.specs.Nested.{in_object, with_parts}
use Rattle.package_sources.specs.declared.formats.npm.Lies.{Lies}
use Rattle.package_sources.specs.declared.formats.npm.Lies.TheVariants as lies
use Rattle.package_sources.specs.declared.several.Entry.TheVariants as entry
use Rattle.package_sources.specs.Several.{choice_of}
use Rattle.package_sources.specs.Folders.{folder_name}

abbrev pub is_absent : Option Data → Bool
is_absent None = true
is_absent (Some null) = true
is_absent found = false

-- the name of an item, or else that of its folder, which is its key
abbrev pub name_of : ItemRow → Result (List ℕ) Fault
name_of i =
    if is_absent (get (codes "name") i.holds) && not (length (folder_name i.key) == 0)
    then Ok (folder_name i.key)
    else text_of (i.at ++ codes "/name") (get (codes "name") i.holds)

abbrev pub is_list : Option Data → Bool
is_list (Some (array ds)) = true
is_list found = false

abbrev pub has_members : Option Data → Bool
has_members (Some (object ms)) = true
has_members found = false

abbrev pub type_of : Option Data → Option Data
type_of found = option_and_then (get (codes "type")) found

-- a text, an object with one at `type`, or a list of such, of which each is a choice
abbrev pub license_in : List ℕ → List ℕ → Option Data → Result LicenseRow Fault
license_in at type_at found =
    if is_list found then on_ok (list_items at found) (choice_of entry.Npm)
    else if has_members found then license_at type_at (type_of found) else license_at at found

-- `license`, or the old `licenses` where nothing or null stands there
abbrev pub npm_license : ItemRow → Result LicenseRow Fault
npm_license i =
    if is_absent (get (codes "license") i.holds)
    then license_in (i.at ++ codes "/licenses") (i.at ++ codes "/licenses/type")
    (get (codes "licenses") i.holds)
    else license_in (i.at ++ codes "/license") (i.at ++ codes "/license/type")
    (get (codes "license") i.holds)

abbrev pub points_in : Data → Option Data → Option Data → Bool
points_in entries (Some (boolean true)) (Some (string target)) = is_some (get target entries)
points_in entries link target = false

-- an entry that only points to another entry is no package
abbrev pub is_link : Data → Data → Bool
is_link entries d = points_in entries (get (codes "link") d) (get (codes "resolved") d)

-- the package of an entry: the empty key is that of the root
abbrev pub lock_item : List ℕ → ItemRow → ItemRow
lock_item stand_in i =
    if length i.key == 0 then record { key = stand_in; at = i.at; holds = i.holds; is_own = true }
    else i

-- the packages of the entries, but for those that point to others
abbrev pub lock_items : List ℕ → Data → List ItemRow → List ItemRow
lock_items stand_in entries [] = []
lock_items stand_in entries (i ∷ is) =
    if not (is_link entries i.holds) then lock_item stand_in i ∷ lock_items stand_in entries is
    else lock_items stand_in entries is

abbrev pub entry_items : List ℕ → Data → Result (List ItemRow) Fault
entry_items stand_in entries =
    on_ok (member_items (codes "/packages") (Some entries))
    (λ is. Ok (lock_items stand_in entries is))

abbrev pub is_object : Data → Bool
is_object (object ms) = true
is_object d = false

-- whether some member is an object
abbrev pub has_object : Members → Bool
has_object no_members = false
has_object (member key d ms) = is_object d || has_object ms

abbrev pub holds_object : Option Data → Bool
holds_object (Some (object ms)) = has_object ms
holds_object found = false

-- an old lock file, or what `npm ls` writes: in a package.json each of the dependencies is a text
abbrev pub is_tree : Data → Bool
is_tree d = is_some (get (codes "lockfileVersion") d) || holds_object (get (codes "dependencies") d)

-- the packages of a tree, from its root on
unfoldable pub tree_parts : List ℕ → Data → Result (List ItemRow) Fault
tree_parts stand_in d = with_parts (in_object (codes "dependencies")) 64 (root_item stand_in true d)

abbrev pub tree_items : List ℕ → Data → Option Data → Result (List ItemRow) Fault
tree_items stand_in d None = tree_parts stand_in d
tree_items stand_in d (Some null) = tree_parts stand_in d
tree_items stand_in d (Some entries) = entry_items stand_in entries

abbrev pub lies_by : Option Data → Lies
lies_by None = lies.AtPath
lies_by (Some null) = lies.AtPath
lies_by (Some entries) = lies.AtKey

-- where the packages lie: those of a lock file at their keys, those of a tree where they say it,
-- and that of a package.json here
abbrev pub lies_in : Data → Lies
lies_in d = if is_tree d then lies_by (get (codes "packages") d) else lies.Here

-- the folder of an item; the root of a lock file lies here
abbrev pub folder : Lies → ItemRow → Result (Option (List ℕ)) Fault
folder lies.Here i = Ok (Some (codes "."))
folder lies.AtKey i = if i.is_own then Ok (Some (codes ".")) else Ok (Some i.key)
folder lies.AtPath i = text_if_any (i.at ++ codes "/path") (get (codes "path") i.holds)

-- the packages of the entries of a lock file, of a tree, or of a package.json
abbrev pub npm_items : List ℕ → Data → Result (List ItemRow) Fault
npm_items stand_in d =
    if is_tree d then tree_items stand_in d (get (codes "packages") d)
    else Ok (root_item stand_in false d ∷ [])
