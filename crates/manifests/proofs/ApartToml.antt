-- No way to a declared text of a document of TOML is there twice.
use Rattle.std.proofs.Common.{◌≡◌, ◌≢◌, ℕ, ◌+◌, ◌≤◌, List, [], ◌∷◌, Option, Some, None, Bool, true, false, arith, codes, refl, map, cond}
use Rattle.std.specs.Prelude.{All, filter, option_and_then}
use Rattle.std.specs.Option.{option_to_list, option_map_or}
use Rattle.std.proofs.lemmas.List.Elements.{All-append, All-nil, All-cons}
use Rattle.toml.specs.Data.{Data, string, integer, float, boolean, datetime, array, table, Items, no_items, item, Members, get, get_member, as_str}
use Rattle.manifests.specs.Steps.{Step, Key, Item}
use Rattle.manifests.specs.Toml.{annotation_paths, annotations_paths, cargo_paths, is_no_word_of_poetry, paths_among, paths_in, paths_of_annotations, poetry_texts, pyproject_paths, reuse_paths, steps_to, text_behind, value_behind}
use Rattle.manifests.proofs.Apart.{AreApart, BeginsAt, joined, one, one_is}

-- the number of the annotation to which a way leads, and of the item there
abbrev annotation_of : List Step → ℕ
annotation_of [] = 0
annotation_of (step ∷ []) = 0
annotation_of (step ∷ Key key ∷ way) = 0
annotation_of (step ∷ Item index ∷ way) = index

abbrev item_of : List Step → ℕ
item_of [] = 0
item_of (step ∷ []) = 0
item_of (step ∷ second ∷ []) = 0
item_of (step ∷ second ∷ third ∷ []) = 0
item_of (step ∷ second ∷ third ∷ Key key ∷ way) = 0
item_of (step ∷ second ∷ third ∷ Item index ∷ way) = index

abbrev IsOf : ℕ → List Step → Type 0
IsOf annotation way = annotation_of way ≡ annotation

among_is : (annotation number : ℕ) (ds : Items) → All (IsOf annotation) (paths_among annotation number ds)
among_is annotation number no_items = All-nil (IsOf annotation)
among_is annotation number (item d ds) =
    All-append (IsOf annotation) _ _ (one_is (IsOf annotation) (as_str d) (steps_to annotation (Some number)) refl)
    (among_is annotation (number + 1) ds)

among_count : (annotation number : ℕ) (ds : Items) → All (λ way. number ≤ item_of way) (paths_among annotation number ds)
among_count annotation number no_items = All-nil (λ way. number ≤ item_of way)
among_count annotation number (item d ds) =
    All-append (λ way. number ≤ item_of way) _ _
    (one_is (λ way. number ≤ item_of way) (as_str d) (steps_to annotation (Some number)) (omega arith))
    (λ k w lt. omega (arith, among_count annotation (number + 1) ds k w lt))

among : (annotation number : ℕ) (ds : Items) → AreApart (paths_among annotation number ds)
among annotation number no_items = tt
among annotation number (item d ds) =
    joined (λ way. item_of way ≡ number) (λ way. number + 1 ≤ item_of way) (λ way is below. omega (arith, is, below)) _ _
    (one_is (λ way. item_of way ≡ number) (as_str d) (steps_to annotation (Some number)) refl)
    (among_count annotation (number + 1) ds)
    (one (as_str d) (steps_to annotation (Some number)))
    (among annotation (number + 1) ds)

said_is : (annotation : ℕ) (d : Data) → All (IsOf annotation) (paths_in annotation d)
said_is annotation (array ds) = among_is annotation 0 ds
said_is annotation (string s) = one_is (IsOf annotation) (Some s) (steps_to annotation None) refl
said_is annotation (integer z) = All-nil (IsOf annotation)
said_is annotation (float x) = All-nil (IsOf annotation)
said_is annotation (boolean b) = All-nil (IsOf annotation)
said_is annotation (datetime t) = All-nil (IsOf annotation)
said_is annotation (table ms) = All-nil (IsOf annotation)

said : (annotation : ℕ) (d : Data) → AreApart (paths_in annotation d)
said annotation (array ds) = among annotation 0 ds
said annotation (string s) = one (Some s) (steps_to annotation None)
said annotation (integer z) = tt
said annotation (float x) = tt
said annotation (boolean b) = tt
said annotation (datetime t) = tt
said annotation (table ms) = tt

found_is : (annotation : ℕ) (found : Option Data) → All (IsOf annotation) (option_map_or (paths_in annotation) found [])
found_is annotation None = All-nil (IsOf annotation)
found_is annotation (Some d) = said_is annotation d

found_apart : (annotation : ℕ) (found : Option Data) → AreApart (option_map_or (paths_in annotation) found [])
found_apart annotation None = tt
found_apart annotation (Some d) = said annotation d

annotations_count : (number : ℕ) (ds : Items) → All (λ way. number ≤ annotation_of way) (annotations_paths number ds)
annotations_count number no_items = All-nil (λ way. number ≤ annotation_of way)
annotations_count number (item d ds) =
    All-append (λ way. number ≤ annotation_of way) (annotation_paths number d) (annotations_paths (number + 1) ds)
    (λ k w lt. omega (arith, found_is number (get (codes "SPDX-License-Identifier") d) k w lt))
    (λ k w lt. omega (arith, annotations_count (number + 1) ds k w lt))

annotations : (number : ℕ) (ds : Items) → AreApart (annotations_paths number ds)
annotations number no_items = tt
annotations number (item d ds) =
    joined (IsOf number) (λ way. number + 1 ≤ annotation_of way) (λ way is below. omega (arith, is, below)) _ _
    (found_is number (get (codes "SPDX-License-Identifier") d))
    (annotations_count (number + 1) ds)
    (found_apart number (get (codes "SPDX-License-Identifier") d))
    (annotations (number + 1) ds)

all_annotations : (d : Data) → AreApart (paths_of_annotations d)
all_annotations (array ds) = annotations 0 ds
all_annotations (string s) = tt
all_annotations (integer z) = tt
all_annotations (float x) = tt
all_annotations (boolean b) = tt
all_annotations (datetime t) = tt
all_annotations (table ms) = tt

reuse_member : (found : Option Data) → AreApart (option_map_or paths_of_annotations found [])
reuse_member None = tt
reuse_member (Some d) = all_annotations d

pub reuse_ways_apart : (document : Members) → AreApart (reuse_paths document)
reuse_ways_apart document = reuse_member (get_member (codes "annotations") document)

-- the way to one text, if there is one, and if it is kept
behind : (text : Option (List ℕ)) (way : List Step) → AreApart (map (λ _. way) (option_to_list text))
behind None way = tt
behind (Some text) way = (All-nil (λ other. way ≢ other), tt)

kept : (b : Bool) (text : List ℕ) (way : List Step) → AreApart (map (λ _. way) (cond b (text ∷ []) []))
kept true text way = (All-nil (λ other. way ≢ other), tt)
kept false text way = tt

kept_behind : (test : List ℕ → Bool) (text : Option (List ℕ)) (way : List Step) → AreApart (map (λ _. way) (filter test (option_to_list text)))
kept_behind test None way = tt
kept_behind test (Some text) way = kept (test text) text way

behind_is : (P : List Step → Type 0) (texts : List (List ℕ)) (way : List Step) → P way → All P (map (λ _. way) texts)
behind_is P [] way p = All-nil P
behind_is P (text ∷ texts) way p = All-cons P way (map (λ _. way) texts) p (behind_is P texts way p)

abbrev text_at : List ℕ → List (List ℕ) → Members → Option (List ℕ)
text_at key keys document = option_and_then as_str (option_and_then (value_behind keys) (get_member key document))

pub cargo_ways_apart : (document : Members) → AreApart (cargo_paths document)
cargo_ways_apart document =
    let own = codes "license" ∷ [] in
    let shared = codes "package" ∷ codes "license" ∷ [] in
    joined (BeginsAt (codes "package")) (BeginsAt (codes "workspace")) (λ way is other. absurd (cc)) _ _
    (behind_is (BeginsAt (codes "package")) (text_behind (codes "package") own document) (Key (codes "package") ∷ map Key own) refl)
    (behind_is (BeginsAt (codes "workspace")) (text_behind (codes "workspace") shared document) (Key (codes "workspace") ∷ map Key shared) refl)
    (behind (text_at (codes "package") own document) (Key (codes "package") ∷ map Key own))
    (behind (text_at (codes "workspace") shared document) (Key (codes "workspace") ∷ map Key shared))

pub pyproject_ways_apart : (document : Members) → AreApart (pyproject_paths document)
pyproject_ways_apart document =
    let own = codes "license" ∷ [] in
    let poetry = codes "poetry" ∷ codes "license" ∷ [] in
    joined (BeginsAt (codes "project")) (BeginsAt (codes "tool")) (λ way is other. absurd (cc)) _ _
    (behind_is (BeginsAt (codes "project")) (text_behind (codes "project") own document) (Key (codes "project") ∷ map Key own) refl)
    (behind_is (BeginsAt (codes "tool")) (poetry_texts document) (Key (codes "tool") ∷ map Key poetry) refl)
    (behind (text_at (codes "project") own document) (Key (codes "project") ∷ map Key own))
    (kept_behind is_no_word_of_poetry (text_at (codes "tool") poetry document) (Key (codes "tool") ∷ map Key poetry))
