-- The text that a path leads to, and the document with another text there.
use Rattle.std.specs.Prelude.{ℕ, ◌+◌, ◌==◌, List, [], ◌∷◌, Option, Some, option_and_then, bytes_eq, if◌then◌else◌}
use Rattle.serde_json.specs.Data.{Data, string, array, object, Items, no_items, item, Members, no_members, member}
use Rattle.serde_json.specs.Find.{get, at, as_str}
use Rattle.json_places.specs.declared.path.Step.{Step}
use Rattle.json_places.specs.declared.path.Step.TheVariants.{Key, Item}

-- what a step leads to
abbrev pub value_behind : Step → Data → Option Data
value_behind (Key key) d = get key.now d
value_behind (Item index) d = at index d

-- what the steps lead to
abbrev pub value_at : List Step → Data → Option Data
value_at [] d = Some d
value_at (step ∷ steps) d = option_and_then (value_at steps) (value_behind step d)

-- the text that the steps lead to
abbrev pub text_at : List Step → Data → Option (List ℕ)
text_at steps document = option_and_then as_str (value_at steps document)

-- the members, with what stands at the key changed
abbrev pub change_member : (Data → Data) → List ℕ → Members → Members
change_member change key no_members = no_members
change_member change key (member k d ms) =
    member k (if bytes_eq key k then change d else d) (change_member change key ms)

-- the items, the first of which has this number, with the one at the index changed
abbrev pub change_item : (Data → Data) → ℕ → ℕ → Items → Items
change_item change index number no_items = no_items
change_item change index number (item d ds) =
    item (if number == index then change d else d) (change_item change index (number + 1) ds)

-- what the step leads to is changed, and nothing where it leads to nothing
abbrev pub change_behind : (Data → Data) → Step → Data → Data
change_behind change (Key key) (object ms) = object (change_member change key.now ms)
change_behind change (Item index) (array ds) = array (change_item change index 0 ds)
change_behind change step d = d

-- another text in place of a text, and nothing changed where no text is
abbrev pub set_text : List ℕ → Data → Data
set_text text (string old) = string text
set_text text d = d

-- the text that the steps lead to is another, and nothing changes where they lead to no text
abbrev pub set_at : List Step → List ℕ → Data → Data
set_at [] text d = set_text text d
set_at (step ∷ steps) text d = change_behind (set_at steps text) step d
