-- The values of a line lie in it, one behind the other.
use Rattle.std.proofs.Common.{ℕ, zero, suc, ◌+◌, ◌-◌, ◌≤◌, ◌&&◌, nat_eq, cond, Bool, true, false, Option, Some, None, option_map, IfSome, List, [], ◌∷◌, ◌++◌, length, drop, arith}
use Rattle.std.specs.Option.{option_to_list}
use Rattle.std.specs.List.{starts_with}
use Rattle.std.proofs.lemmas.List.{length-drop}
use Rattle.text_places.specs.declared.Span.{Span}
use Rattle.text_places.specs.declared.field_lines.Grammar.{Grammar}
use Rattle.text_places.specs.declared.places.Place.{Place}
use Rattle.text_places.specs.declared.places.Place.TheVariants.{Outside, Fields, Items, InList}
use Rattle.text_places.specs.declared.texts.Extent.{Extent}
use Rattle.text_places.specs.declared.texts.Piece.{Piece}
use Rattle.text_places.specs.declared.texts.Piece.TheVariants.{Gap, Value, End}
use Rattle.text_places.specs.Order.{AreInOrder}
use Rattle.text_places.specs.Names.{field_text, item_text}
use Rattle.text_places.specs.Texts.{scalar, next_piece, span_at, listed_by, listed, IsWithin, IsPieceWithin}
use Rattle.text_places.specs.Fields.{Read, has_items, begins_list, is_passed, is_empty_line, begins_section, list_read, scalar_read, text_read, field_read, item_read, place_read, line_read}
use Rattle.text_places.proofs.Lengths.{IsUpTo, scalar-within, next_piece-within, field_text-within, item_text-within}

pub AreInOrder-less : (low less : ℕ) (spans : List Span) (high : ℕ) → less ≤ low → AreInOrder low spans high → AreInOrder less spans high
AreInOrder-less low less [] high l h = omega arith
AreInOrder-less low less (s ∷ spans) high l h = (omega (arith, h.0), h.1, h.2)

pub AreInOrder-more : (low : ℕ) (spans : List Span) (high more : ℕ) → high ≤ more → AreInOrder low spans high → AreInOrder low spans more
AreInOrder-more low [] high more l h = omega arith
AreInOrder-more low (s ∷ spans) high more l h = (h.0, h.1, AreInOrder-more s.end spans high more l h.2)

pub AreInOrder-append : (low : ℕ) (xs : List Span) (middle : ℕ) (ys : List Span) (high : ℕ) → AreInOrder low xs middle → AreInOrder middle ys high → AreInOrder low (xs ++ ys) high
AreInOrder-append low [] middle ys high h k = AreInOrder-less middle low ys high h k
AreInOrder-append low (s ∷ xs) middle ys high h k = (h.0, h.1, AreInOrder-append s.end xs middle ys high h.2 k)

listed_by-order : (g : Grammar) (end b : ℕ) (bs : List ℕ) (p : Piece) → suc (length bs) ≤ end → IsPieceWithin (suc (length bs)) p →
    ((skip : ℕ) → skip ≤ length bs → AreInOrder (end - length bs + skip) (listed g end skip bs).values end) → AreInOrder (end - length (b ∷ bs)) (listed_by (end - length (b ∷ bs)) (λ skip. listed g end skip bs) p).values end
listed_by-order g end b bs Gap l w later = AreInOrder-less _ _ (listed g end 0 bs).values end (omega arith) (later 0 (omega arith))
listed_by-order g end b bs (Value s) l w later =
    let some = w.some in
    let value = w.value in
    let read = w.read in
    (omega arith, omega arith, AreInOrder-less _ _ (listed g end (s.read - 1) bs).values end (omega arith) (later (s.read - 1) (omega arith)))
listed_by-order g end b bs (End is_open) l w later = omega arith

listed-order : (g : Grammar) (end skip : ℕ) (text : List ℕ) → length text ≤ end → skip ≤ length text → AreInOrder (end - length text + skip) (listed g end skip text).values end
listed-order g end skip [] l k = omega arith
listed-order g end (suc skip) (b ∷ bs) l k =
    AreInOrder-less _ _ (listed g end skip bs).values end (omega arith) (listed-order g end skip bs (omega arith) (omega arith))
listed-order g end zero (b ∷ bs) l k =
    AreInOrder-less (end - length (b ∷ bs)) _ (listed g end 0 (b ∷ bs)).values end (omega arith)
    (listed_by-order g end b bs (next_piece g b (b ∷ bs)) (omega arith) (next_piece-within g b (b ∷ bs)) (λ s h. listed-order g end s bs (omega arith) h))

scalar-order : (end : ℕ) (text : List ℕ) (o : Option Extent) → length text ≤ end → IfSome o (IsWithin (length text)) →
    AreInOrder (end - length text) (option_to_list (option_map (span_at (end - length text)) o)) end
scalar-order end text None l h = omega arith
scalar-order end text (Some s) l h =
    let some = h.some in
    let value = h.value in
    let read = h.read in
    (omega arith, omega arith, omega arith)

-- what is read of a text of so many bytes that ends there
abbrev pub IsReadInOrder : ℕ → ℕ → Read → Type 0
IsReadInOrder end len r = AreInOrder (end - len) r.values end

read_either : (end len : ℕ) (t : Bool) (r s : Read) → IsReadInOrder end len r → IsReadInOrder end len s → IsReadInOrder end len (cond t r s)
read_either end len true r s h k = h
read_either end len false r s h k = k

list_read-order : (g : Grammar) (end len : ℕ) (text : List ℕ) → len ≤ end → length text ≤ len → IsReadInOrder end len (list_read g end text)
list_read-order g end len text l h =
    AreInOrder-less _ _ (list_read g end text).values end (omega arith) (listed-order g end 0 text (omega arith) (omega arith))

scalar_read-order : (g : Grammar) (end len : ℕ) (text : List ℕ) (place : Place) → len ≤ end → length text ≤ len → IsReadInOrder end len (scalar_read g end text place)
scalar_read-order g end len text place l h =
    AreInOrder-less _ _ (scalar_read g end text place).values end (omega arith) (scalar-order end text (scalar g false text) (omega arith) (scalar-within g false text))

text_read-order : (g : Grammar) (end len : ℕ) (text : List ℕ) → len ≤ end → length text ≤ len → IsReadInOrder end len (text_read g end text)
text_read-order g end len text l h =
    let list = list_read g end (drop 1 text) in
    let one = scalar_read g end text Fields in
    let items : Read = record { values = []; place = Items } in
    let test = has_items g.notation && is_passed g text in
    read_either end len (begins_list g.notation text) list (cond test items one) (list_read-order g end len (drop 1 text) l (omega (arith, length-drop 1 text)))
    (read_either end len test items one (omega arith) (scalar_read-order g end len text Fields l h))

field_read-order : (g : Grammar) (end len : ℕ) (o : Option (List ℕ)) → len ≤ end → IfSome o (IsUpTo len) → IsReadInOrder end len (field_read g end o)
field_read-order g end len None l h = omega arith
field_read-order g end len (Some text) l h = text_read-order g end len text l h

item_read-order : (g : Grammar) (end : ℕ) (line : List ℕ) (o : Option (List ℕ)) → length line ≤ end → IfSome o (IsUpTo (length line)) → IsReadInOrder end (length line) (item_read g end line o)
item_read-order g end line None l h = field_read-order g end (length line) (field_text g line) l (field_text-within g line)
item_read-order g end line (Some text) l h = scalar_read-order g end (length line) text Items l h

place_read-order : (g : Grammar) (place : Place) (end : ℕ) (line : List ℕ) → length line ≤ end → IsReadInOrder end (length line) (place_read g place end line)
place_read-order g Outside end line l = omega arith
place_read-order g Fields end line l = field_read-order g end (length line) (field_text g line) l (field_text-within g line)
place_read-order g Items end line l = item_read-order g end line (item_text line) l (item_text-within line)
place_read-order g InList end line l = list_read-order g end (length line) line l (omega arith)

pub line_read-order : (g : Grammar) (place : Place) (end : ℕ) (line : List ℕ) → length line ≤ end → IsReadInOrder end (length line) (line_read g place end line)
line_read-order g place end line l =
    let none : end - length line ≤ end = omega arith in
    let len = length line in
    let ended : Read = record { values = []; place = Outside } in
    let begun : Read = record { values = []; place = cond (starts_with nat_eq line g.section.now) Fields Outside } in
    let passed : Read = record { values = []; place = place } in
    let read = place_read g place end line in
    let other = cond (is_passed g line) passed read in
    read_either end len (g.is_header && is_empty_line line) ended (cond (begins_section g.section.now line) begun other) none
    (read_either end len (begins_section g.section.now line) begun other none (read_either end len (is_passed g line) passed read none (place_read-order g place end line l)))
