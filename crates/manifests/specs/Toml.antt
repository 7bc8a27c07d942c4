-- The expressions that a manifest of TOML declares, and the way to each of them.
use Rattle.std.specs.Prelude.{ℕ, ◌+◌, Bool, not, bytes_eq, filter, map, List, [], ◌∷◌, ◌++◌, codes, Option, Some, None, option_and_then, option_map}
use Rattle.std.specs.Option.{option_to_list, option_map_or}
use Rattle.toml.specs.Data.{Data, array, Items, no_items, item, Members, get, get_member, as_str}
use Rattle.manifests.specs.Steps.{Step, Key, Item}

-- what stands behind keys, one after the other
abbrev pub value_behind : List (List ℕ) → Data → Option Data
value_behind [] d = Some d
value_behind (key ∷ keys) d = option_and_then (value_behind keys) (get key d)

-- the text that stands behind a key and others, if one does
abbrev pub text_behind : List ℕ → List (List ℕ) → Members → List (List ℕ)
text_behind key keys document =
    option_to_list (option_and_then as_str
    (option_and_then (value_behind keys) (get_member key document)))

-- of Cargo.toml: of the package, and of the members of a workspace that take it over
abbrev pub cargo_texts : Members → List (List ℕ)
cargo_texts document =
    text_behind (codes "package") (codes "license" ∷ []) document
    ++ text_behind (codes "workspace") (codes "package" ∷ codes "license" ∷ []) document

-- the text is no word of Poetry's, which has one for a license that isn't open
abbrev pub is_no_word_of_poetry : List ℕ → Bool
is_no_word_of_poetry text = not (bytes_eq text (codes "Proprietary"))

abbrev pub poetry_texts : Members → List (List ℕ)
poetry_texts document =
    filter is_no_word_of_poetry
    (text_behind (codes "tool") (codes "poetry" ∷ codes "license" ∷ []) document)

-- of pyproject.toml: the expression of the project, and Poetry's
abbrev pub pyproject_texts : Members → List (List ℕ)
pyproject_texts document =
    text_behind (codes "project") (codes "license" ∷ []) document ++ poetry_texts document

-- the texts among the items of a list
abbrev pub texts_among : Items → List (List ℕ)
texts_among no_items = []
texts_among (item d ds) = option_to_list (as_str d) ++ texts_among ds

-- one text, or those of a list
abbrev pub texts_in : Data → List (List ℕ)
texts_in (array items) = texts_among items
texts_in d = option_to_list (as_str d)

-- what an annotation says
abbrev pub annotation_texts : Data → List (List ℕ)
annotation_texts d = option_map_or texts_in (get (codes "SPDX-License-Identifier") d) []

-- what the annotations of a list say
abbrev pub annotations_texts : Items → List (List ℕ)
annotations_texts no_items = []
annotations_texts (item d ds) = annotation_texts d ++ annotations_texts ds

-- what all annotations say
abbrev pub texts_of_annotations : Data → List (List ℕ)
texts_of_annotations (array items) = annotations_texts items
texts_of_annotations d = []

-- of REUSE.toml
abbrev pub reuse_texts : Members → List (List ℕ)
reuse_texts document =
    option_map_or texts_of_annotations (get_member (codes "annotations") document) []

-- the way to what stands behind a key and others, for each of these texts
abbrev pub ways_behind : List ℕ → List (List ℕ) → List (List ℕ) → List (List Step)
ways_behind key keys texts = map (λ _. Key key ∷ map Key keys) texts

-- the way to the text that stands behind a key and others, if one does
abbrev pub path_behind : List ℕ → List (List ℕ) → Members → List (List Step)
path_behind key keys document = ways_behind key keys (text_behind key keys document)

-- the ways to the texts of `cargo_texts`, in their order
abbrev pub cargo_paths : Members → List (List Step)
cargo_paths document =
    path_behind (codes "package") (codes "license" ∷ []) document
    ++ path_behind (codes "workspace") (codes "package" ∷ codes "license" ∷ []) document

abbrev pub poetry_paths : Members → List (List Step)
poetry_paths document =
    ways_behind (codes "tool") (codes "poetry" ∷ codes "license" ∷ []) (poetry_texts document)

-- the ways to those of `pyproject_texts`
abbrev pub pyproject_paths : Members → List (List Step)
pyproject_paths document =
    path_behind (codes "project") (codes "license" ∷ []) document ++ poetry_paths document

-- to what an annotation says, or to an item of it
abbrev pub steps_to : ℕ → Option ℕ → List Step
steps_to annotation index =
    Key (codes "annotations") ∷ Item annotation ∷ Key (codes "SPDX-License-Identifier")
    ∷ map Item (option_to_list index)

-- the way to a value that an annotation says, if it is a text
abbrev pub path_in : ℕ → Option ℕ → Data → Option (List Step)
path_in annotation index d = option_map (λ _. steps_to annotation index) (as_str d)

-- the ways to the texts among the items of a list, the first of which has this number
abbrev pub paths_among : ℕ → ℕ → Items → List (List Step)
paths_among annotation number no_items = []
paths_among annotation number (item d ds) =
    option_to_list (path_in annotation (Some number) d) ++ paths_among annotation (number + 1) ds

-- to one text, or to those of a list
abbrev pub paths_in : ℕ → Data → List (List Step)
paths_in annotation (array items) = paths_among annotation 0 items
paths_in annotation d = option_to_list (path_in annotation None d)

-- to what the annotation of this number says
abbrev pub annotation_paths : ℕ → Data → List (List Step)
annotation_paths annotation d =
    option_map_or (paths_in annotation) (get (codes "SPDX-License-Identifier") d) []

-- to what the annotations of a list say, the first of which has this number
abbrev pub annotations_paths : ℕ → Items → List (List Step)
annotations_paths number no_items = []
annotations_paths number (item d ds) =
    annotation_paths number d ++ annotations_paths (number + 1) ds

-- to what all annotations say
abbrev pub paths_of_annotations : Data → List (List Step)
paths_of_annotations (array items) = annotations_paths 0 items
paths_of_annotations d = []

-- the ways to those of `reuse_texts`
abbrev pub reuse_paths : Members → List (List Step)
reuse_paths document =
    option_map_or paths_of_annotations (get_member (codes "annotations") document) []
