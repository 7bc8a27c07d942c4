-- General texts of licences, as the files of a folder have them.
use Rattle.std.specs.Prelude.{◌≡◌, ◌⊎◌, ℕ, Bool, true, false, ◌&&◌, not, List, [], ◌∷◌, ◌++◌, Option, None, Some, bytes_eq, codes, filter, flat_map, map, string_bytes, if◌then◌else◌}
use Rattle.std.specs.Borrow.{Bor}
use Rattle.std.specs.List.{list_any}
use Rattle.std.specs.Option.{option_to_list}
use Rattle.std.specs.Path.{path_join}
use Rattle.shelves.specs.Shelf.{Shelved}
use Rattle.package_items.specs.Each.{AreHad}
use Rattle.owed_texts.specs.declared.trouble.Obstacle.{Obstacle}
use Rattle.owed_texts.specs.declared.trouble.Obstacle.TheVariants as obstacle
use Rattle.owed_texts.specs.declared.trouble.TextTrouble.{TextTrouble}
use Rattle.owed_texts.specs.Plain.{plain_if}
use Rattle.owed_texts.specs.Trouble.{IsOf, is_not_found}
use Rattle.owed_texts.specs.Within.{IsReadWithin, IsUnreadWithin}
use Rattle.notice_told.specs.declared.lacks.Lack.{Lack}
use Rattle.owed_texts.specs.declared.held.HeldText.{HeldText}
use Rattle.owed_texts.specs.declared.held.HeldTexts.{HeldTexts}
use Rattle.owed_texts.specs.declared.held.TextFolder.{TextFolder}

-- ---- which texts

abbrev pub name_in : Bor (List ℕ) → List ℕ
name_in name = name.now

abbrev pub lacked_by : Lack → List ℕ
lacked_by l = l.text.now

abbrev pub has_name : List (List ℕ) → List ℕ → Bool
has_name names name = list_any (λ one. bytes_eq one name) names

-- the names, each once, where it comes first
abbrev pub each_first : List (List ℕ) → List (List ℕ)
each_first [] = []
each_first (name ∷ names) = name ∷ filter (λ other. not (bytes_eq name other)) (each_first names)

-- ---- what they hold

-- a text by its name, and what of it is shown
pub record Text : Type 0 where
  pub name : List ℕ
  pub bytes : List ℕ

abbrev pub held_of : HeldText → Text
held_of t = record { name = string_bytes t.name; bytes = t.bytes.items }

abbrev pub text_path : List ℕ → List ℕ → List ℕ
text_path folder name = path_join folder (name ++ codes ".txt")

-- the folder that nothing is read out of
abbrev pub inside : TextFolder → Option (List ℕ)
inside a = if a.follow then None else Some a.path.now

abbrev pub path_of : TextFolder → List ℕ → List ℕ
path_of a name = text_path a.path.now name

-- nothing is there
abbrev pub is_missing : Obstacle → Bool
is_missing (obstacle.Unreadable e) = is_not_found e
is_missing why = false

-- the bytes are those of a text: there are some
abbrev pub IsTextOf : Bool → List ℕ → List ℕ → Text → Type 0
IsTextOf plain name [] t = ⊥
IsTextOf plain name (b ∷ bytes) t = t ≡ record { name = name; bytes = plain_if plain (b ∷ bytes) }

-- the file in the folder holds the text; or nothing is there, and it may be missing
abbrev pub IsText : Shelved → TextFolder → List ℕ → Option Text → Type 0
IsText s a name None = (t : TextTrouble) × IsUnreadWithin s name (inside a) (path_of a name) t ×
    ((a.may_lack && is_missing t.why) ≡ true)
IsText s a name (Some t) = (bytes : List ℕ) × IsReadWithin s (inside a) (path_of a name) bytes ×
    IsTextOf a.plain name bytes t

-- a file without a byte is no text
abbrev pub IsEmptyText : List ℕ → List ℕ → List ℕ → TextTrouble → Type 0
IsEmptyText name path [] t = IsOf name path obstacle.Empty t
IsEmptyText name path (b ∷ bytes) t = ⊥

-- it can't be read, leads out of the folder, or isn't there and has to be; or it is empty
abbrev pub IsNoText : Shelved → TextFolder → List ℕ → TextTrouble → Type 0
IsNoText s a name t =
    (IsUnreadWithin s name (inside a) (path_of a name) t ×
    ((a.may_lack && is_missing t.why) ≡ false))
    ⊎ ((bytes : List ℕ) × IsReadWithin s (inside a) (path_of a name) bytes ×
    IsEmptyText name (path_of a name) bytes t)

-- of each of these names its text is had, may be missing, or is told, in their order
pub record AreHeld (s : Shelved) (a : TextFolder) (names : List (List ℕ)) (held : HeldTexts) :
    Type 0 where
  pub found : List (Option Text)
  pub each : AreHad (IsText s a) (IsNoText s a) names found held.lacking.items
  pub kept : map held_of held.texts.items ≡ flat_map option_to_list found

-- ---- the parts of it, which only private clauses cite

abbrev pub with_name : List (List ℕ) → List ℕ → List (List ℕ)
with_name names name = if has_name names name then names else names ++ name ∷ []

abbrev pub IsLet : Bool → TextTrouble → Type 0
IsLet may_lack t = (may_lack && is_missing t.why) ≡ true

abbrev pub IsNotLet : Bool → TextTrouble → TextTrouble → Type 0
IsNotLet may_lack t told = (told ≡ t) × ((may_lack && is_missing t.why) ≡ false)

-- one text more
abbrev pub IsOneMore : Shelved → TextFolder → List ℕ → HeldTexts → HeldTexts → Type 0
IsOneMore s a name old new =
    (names : List (List ℕ)) → AreHeld s a names old → AreHeld s a (names ++ name ∷ []) new
