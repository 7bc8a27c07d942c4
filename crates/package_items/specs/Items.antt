-- The items of lists and objects, each at its place.
use Rattle.std.specs.Prelude.{ℕ, suc, Bool, false, List, [], ◌∷◌, ◌++◌, Option, Some, None, Result, Ok, Err, if◌then◌else◌, ◌==◌, codes, chars, encode_utf8, flat_map}
use Rattle.std.specs.Fmt.{decimal}
use Rattle.serde_json.specs.Data.{Data, null, array, object, Items, no_items, item, Members, no_members, member}
use Rattle.package_items.specs.Rows.{Fault, not_list, not_object, ItemRow}
use Rattle.package_items.specs.Members.{on_ok, text_of}
use Rattle.package_items.specs.Values.{found_of}

-- a name as a pointer writes it (RFC 6901): `~0` for `~`, and `~1` for `/`
abbrev pub escape : ℕ → List ℕ
escape c = if c == 126 then codes "~0" else if c == 47 then codes "~1" else encode_utf8 c

abbrev pub escaped : List ℕ → List ℕ
escaped name = flat_map escape (chars name)

-- the whole document; a folder may stand for its name
abbrev pub root_item : List ℕ → Bool → Data → ItemRow
root_item folder own d = record { key = folder; at = []; holds = d; is_own = own }

-- the items of a list at a pointer, from the given index on
abbrev pub items_from : List ℕ → ℕ → Items → List ItemRow
items_from at index no_items = []
items_from at index (item d ds) =
    record { key = []; at = at ++ (codes "/" ++ decimal index); holds = d; is_own = false } ∷
    items_from at (suc index) ds

-- the item of that name, of an object at a pointer
abbrev pub member_item : List ℕ → List ℕ → Data → ItemRow
member_item at key d =
    record { key = key; at = at ++ (codes "/" ++ escaped key); holds = d; is_own = false }

-- the items of an object at a pointer
abbrev pub items_named : List ℕ → Members → List ItemRow
items_named at no_members = []
items_named at (member key d ms) = member_item at key d ∷ items_named at ms

abbrev pub list_items : List ℕ → Option Data → Result (List ItemRow) Fault
list_items at (Some (array ds)) = Ok (items_from at 0 ds)
list_items at found = Err (not_list at (found_of found))

-- there are none where nothing or null stands
abbrev pub list_items_if_any : List ℕ → Option Data → Result (List ItemRow) Fault
list_items_if_any at None = Ok []
list_items_if_any at (Some null) = Ok []
list_items_if_any at found = list_items at found

abbrev pub member_items : List ℕ → Option Data → Result (List ItemRow) Fault
member_items at (Some (object ms)) = Ok (items_named at ms)
member_items at found = Err (not_object at (found_of found))

abbrev pub member_items_if_any : List ℕ → Option Data → Result (List ItemRow) Fault
member_items_if_any at None = Ok []
member_items_if_any at (Some null) = Ok []
member_items_if_any at found = member_items at found

-- what each gives, in their order, or the first fault
abbrev pub each : {A B : Type 0} → (A → Result B Fault) → List A → Result (List B) Fault
each read [] = Ok []
each read (x ∷ xs) = on_ok (read x) (λ y. on_ok (each read xs) (λ ys. Ok (y ∷ ys)))

-- what all give, one behind the other, or the first fault
abbrev pub all_of : {A B : Type 0} → (A → Result (List B) Fault) → List A → Result (List B) Fault
all_of read [] = Ok []
all_of read (x ∷ xs) = on_ok (read x) (λ ys. on_ok (all_of read xs) (λ zs. Ok (ys ++ zs)))

-- the texts that items are
abbrev pub texts_of : List ItemRow → Result (List (List ℕ)) Fault
texts_of items = each (λ i. text_of (i.at ++ codes "") (Some i.holds)) items

-- the object that stands at a pointer
abbrev pub object_at : List ℕ → Option Data → Result Data Fault
object_at at (Some (object ms)) = Ok (object ms)
object_at at found = Err (not_object at (found_of found))

-- what an item gives, if it is an object; what its members give is not asked of other items
abbrev pub if_object : {A : Type 0} → ItemRow → Result A Fault → Result A Fault
if_object i gives = on_ok (object_at i.at (Some i.holds)) (λ d. gives)
