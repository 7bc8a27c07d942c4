-- What a document of SPDX 2 is about.
use Rattle.std.specs.Prelude.{ℕ, Bool, false, bytes_eq, if◌then◌else◌, List, [], ◌∷◌, ◌++◌, Option, None, Some, option_and_then, codes}
use Rattle.std.specs.List.{list_all}
use Rattle.std.specs.Option.{option_to_list}
use Rattle.serde_json.specs.Data.{Data, string, array, Items, no_items, item}
use Rattle.serde_json.specs.Find.{get, as_str}

-- the texts among the items of a list
abbrev pub texts_among : Items → List (List ℕ)
texts_among no_items = []
texts_among (item d ds) = option_to_list (as_str d) ++ texts_among ds

abbrev pub texts_of : Option Data → List (List ℕ)
texts_of (Some (array is)) = texts_among is
texts_of found = []

abbrev pub is_describes : Option Data → Bool
is_describes (Some (string s)) = bytes_eq s (codes "DESCRIBES")
is_describes found = false

-- what a relationship says that the document describes
abbrev pub related : Data → List (List ℕ)
related d =
    if is_describes (get (codes "relationshipType") d)
    then option_to_list (option_and_then as_str (get (codes "relatedSpdxElement") d)) else []

abbrev pub related_among : Items → List (List ℕ)
related_among no_items = []
related_among (item d ds) = related d ++ related_among ds

abbrev pub related_of : Option Data → List (List ℕ)
related_of (Some (array is)) = related_among is
related_of found = []

-- the elements that the document tells to describe, in one way or in the other
abbrev pub described : Data → List (List ℕ)
described d =
    texts_of (get (codes "documentDescribes") d) ++ related_of (get (codes "relationships") d)

-- the element that all of these are
abbrev pub only : List (List ℕ) → Option (List ℕ)
only [] = None
only (id ∷ ids) = if list_all (bytes_eq id) ids then Some id else None

-- GitHub wraps a document
abbrev pub bill_in : Data → Option Data → Data
bill_in d None = d
bill_in d (Some bill) = bill

-- the one element that a document is about; none where it describes several
abbrev pub root : Data → Option (List ℕ)
root d = only (described (bill_in d (get (codes "sbom") d)))
