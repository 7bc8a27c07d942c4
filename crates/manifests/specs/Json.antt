-- The expressions that a manifest of JSON declares, and the way to each of them.
use Rattle.std.specs.Prelude.{ℕ, ◌+◌, Bool, true, false, if◌then◌else◌, List, [], ◌∷◌, ◌++◌, codes, Option, Some, None, option_and_then, option_map, map}
use Rattle.std.specs.Option.{option_to_list, option_map_or}
use Rattle.serde_json.specs.Data.{Data, string, array, Items, no_items, item}
use Rattle.serde_json.specs.Find.{get, as_str}
use Rattle.manifests.specs.Steps.{Step, Key, Item}

-- a text, or the text at `type` of an object
abbrev pub text_in : Data → Option (List ℕ)
text_in (string s) = Some s
text_in d = option_and_then as_str (get (codes "type") d)

-- the texts among the items of a list
abbrev pub texts_among : Items → List (List ℕ)
texts_among no_items = []
texts_among (item d ds) = option_to_list (text_in d) ++ texts_among ds

-- one text, or those of a list
abbrev pub texts_in : Data → List (List ℕ)
texts_in (array items) = texts_among items
texts_in d = option_to_list (text_in d)

-- the texts at a member
abbrev pub texts_at : List ℕ → Data → List (List ℕ)
texts_at key document = option_map_or texts_in (get key document) []

-- the texts that a document has at `license` and at `licenses`
abbrev pub license_texts : Data → List (List ℕ)
license_texts document = texts_at (codes "license") document ++ texts_at (codes "licenses") document

-- to a member, or to an item of it
abbrev pub steps_to : List ℕ → Option ℕ → List Step
steps_to key index = Key key ∷ map Item (option_to_list index)

abbrev pub is_text : Data → Bool
is_text (string s) = true
is_text d = false

-- to the text in a value to which these steps lead: the value, or what it has at `type`
abbrev pub way_in : List Step → Data → List Step
way_in steps d = if is_text d then steps else (steps ++ Key (codes "type") ∷ [])

-- the way to the text in the value, if it has one
abbrev pub path_in : List Step → Data → Option (List Step)
path_in steps d = option_map (λ _. way_in steps d) (text_in d)

-- the ways to the texts among the items of a member, the first of which has this number
abbrev pub paths_among : List ℕ → ℕ → Items → List (List Step)
paths_among key number no_items = []
paths_among key number (item d ds) =
    option_to_list (path_in (steps_to key (Some number)) d) ++ paths_among key (number + 1) ds

-- to one text, or to those of a list
abbrev pub paths_in : List ℕ → Data → List (List Step)
paths_in key (array items) = paths_among key 0 items
paths_in key d = option_to_list (path_in (steps_to key None) d)

-- to the texts at a member
abbrev pub paths_at : List ℕ → Data → List (List Step)
paths_at key document = option_map_or (paths_in key) (get key document) []

-- the way to each text of `license_texts`, in their order
abbrev pub license_paths : Data → List (List Step)
license_paths document = paths_at (codes "license") document ++ paths_at (codes "licenses") document
