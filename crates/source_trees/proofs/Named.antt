-- A list of entries and their names are asked the same; and what is put in order is the same.
use Rattle.std.proofs.Common.{◌≡◌, refl, ap, List, [], ◌∷◌, map, codes, bytes_eq, string_bytes, ◌||◌, IsPermutation, subst}
use Rattle.std.proofs.lemmas.List.Sorted.{IsPermutation-map}
use Rattle.shelves.specs.declared.shelf.Entry.{Entry}
use Rattle.shelves.specs.Shelf.{entry_of}
use Rattle.source_trees.specs.declared.stops.Stop.{Stop}
use Rattle.source_trees.specs.Stops.{Stopped, has_cargo, has_name, shown_stop}

pub names_cargo : (es : List Entry) → has_name (codes "Cargo.toml") es ≡ has_cargo (map entry_of es)
names_cargo [] = refl
names_cargo (e ∷ es) = ap (λ b. bytes_eq (string_bytes e.name) (codes "Cargo.toml") || b) (names_cargo es)

pub put_in_order : (found stops : List Stop) (all : List Stopped) → map shown_stop found ≡ all
    → IsPermutation found stops → IsPermutation all (map shown_stop stops)
put_in_order found stops all are p =
    subst (λ xs. IsPermutation xs (map shown_stop stops)) are (IsPermutation-map shown_stop found stops p)
