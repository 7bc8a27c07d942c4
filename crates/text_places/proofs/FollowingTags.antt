-- The element of a step lies in what it reads.
use Rattle.std.proofs.Common.{◌≡◌, ℕ, ◌+◌, ◌-◌, ◌≤◌, ◌==◌, ◌&&◌, nat_eq, cond, Bool, true, false, Option, Some, None, IfSome, List, [], ◌∷◌, ◌++◌, length, take, drop, arith}
use Rattle.std.specs.List.{starts_with, prefix_len}
use Rattle.std.specs.Char.{is_ascii_whitespace}
use Rattle.std.specs.Option.{option_to_list}
use Rattle.std.proofs.lemmas.List.{length-drop, length-take-le}
use Rattle.std.proofs.lemmas.List.Sums.{prefix_len-le-length}
use Rattle.text_places.specs.declared.Span.{Span}
use Rattle.text_places.specs.declared.element_texts.Element.{Element}
use Rattle.text_places.specs.declared.element_texts.Step.{Step}
use Rattle.text_places.specs.Tags.{comment_len, name_end, blank_span, tag_len, text_len, is_open_tag, ends_element, element_in, element_behind}
use Rattle.text_places.specs.Elements.{element_step, name_step, step_at, AreInOrder}

AreInOrder-less : (low less : ℕ) (elements : List Element) (high : ℕ) → less ≤ low → AreInOrder low elements high → AreInOrder less elements high
AreInOrder-less low less [] high l h = omega arith
AreInOrder-less low less (e ∷ elements) high l h = (omega (arith, h.0), h.1, h.2, h.3, h.4)

pub AreInOrder-append : (low : ℕ) (xs : List Element) (middle : ℕ) (ys : List Element) (high : ℕ) → AreInOrder low xs middle → AreInOrder middle ys high → AreInOrder low (xs ++ ys) high
AreInOrder-append low [] middle ys high h k = AreInOrder-less middle low ys high h k
AreInOrder-append low (e ∷ xs) middle ys high h k = (h.0, h.1, h.2, h.3, AreInOrder-append e.text.end xs middle ys high h.4 k)

-- a span between these places
record IsBetween (first : ℕ) (span : Span) (last : ℕ) : Type 0 where
  low : first ≤ span.start
  order : span.start ≤ span.end
  high : span.end ≤ last

blank_span-between : (start : ℕ) (bytes : List ℕ) → IsBetween start (blank_span start bytes) (start + length bytes)
blank_span-between start bytes =
    let front = prefix_len is_ascii_whitespace bytes in
    let short = prefix_len-le-length is_ascii_whitespace bytes in
    let left = length-drop front bytes in
    record { low = omega arith; order = omega arith; high = omega arith }

-- an element between these places, where so many bytes are left behind its text
record IsElement (low end : ℕ) (found : Element × ℕ) : Type 0 where
  attributes : IsBetween low found.0.attributes found.0.text.start
  text : found.0.text.start ≤ found.0.text.end
  high : found.0.text.end ≤ end - found.1
  left : found.1 ≤ end - low

some_if : {T : Type 0} (b : Bool) (x : T) (P : T → Type 0) → P x → IfSome (cond b (Some x) None) P
some_if true x P h = h
some_if false x P h = tt

element_in-order : (name : List ℕ) (end : ℕ) (behind rest : List ℕ) → length behind ≤ end → length rest + tag_len behind ≡ length behind →
    IfSome (element_in name end behind rest) (IsElement (end - length behind) end)
element_in-order name end behind [] l e = tt
element_in-order name end behind (b ∷ inner) l e =
    let tag = take (tag_len behind) behind in
    let text = text_len inner in
    let tags = blank_span-between (end - length behind) tag in
    let texts = blank_span-between (end - length inner) (take text inner) in
    let tag_long = length-take-le (tag_len behind) behind (omega arith) in
    let short : text ≤ length inner = prefix_len-le-length _ inner in
    let text_long = length-take-le text inner short in
    let attributes = blank_span (end - length behind) tag in
    some_if (b == 62 && is_open_tag tag && ends_element name (drop text inner)) _ (IsElement (end - length behind) end)
    (record {
      attributes = record { low = tags.low; order = tags.order; high = omega (arith, tags.high, texts.low) };
      text = texts.order;
      high = omega (arith, texts.high);
      left = omega arith;
    })

element_behind-order : (name : List ℕ) (end : ℕ) (behind : List ℕ) → length behind ≤ end → IfSome (element_behind name end behind) (IsElement (end - length behind) end)
element_behind-order name end behind l =
    let short : tag_len behind ≤ length behind = prefix_len-le-length _ behind in
    element_in-order name end behind (drop (tag_len behind) behind) l (omega (arith, length-drop (tag_len behind) behind))

-- what a step reads of so many bytes before the end
abbrev pub IsStepInOrder : ℕ → ℕ → Step → Type 0
IsStepInOrder end len s = AreInOrder (end - len) (option_to_list s.element) (end - len + s.read)

element_step-order : (end : ℕ) (text : List ℕ) (low : ℕ) (o : Option (Element × ℕ)) → length text ≤ end → end - length text ≤ low → low ≤ end → IfSome o (IsElement low end) → IsStepInOrder end (length text) (element_step text o)
element_step-order end text low None l k m h = omega arith
element_step-order end text low (Some found) l k m h =
    let left = h.left in
    let high = h.high in
    let attributes = h.attributes in
    (omega arith, attributes.order, attributes.high, h.text, omega arith)

name_step-order : (name : List ℕ) (end : ℕ) (text : List ℕ) (o : Option (List ℕ)) → length text ≤ end → IfSome o (λ behind. length behind ≤ length text) → IsStepInOrder end (length text) (name_step name end text o)
name_step-order name end text None l h = omega arith
name_step-order name end text (Some behind) l h =
    element_step-order end text (end - length behind) (element_behind name end behind) l (omega arith) (omega arith) (element_behind-order name end behind (omega arith))

name_end-short : (name text : List ℕ) → IfSome (name_end name text) (λ behind. length behind ≤ length text)
name_end-short name [] = tt
name_end-short name (b ∷ bs) = some_if (b == 60 && starts_with nat_eq bs name) _ (λ behind. length behind ≤ length (b ∷ bs)) (omega (arith, length-drop (length name) bs))

step_either : (end len : ℕ) (t : Bool) (r s : Step) → IsStepInOrder end len r → IsStepInOrder end len s → IsStepInOrder end len (cond t r s)
step_either end len true r s h k = h
step_either end len false r s h k = k

pub step_at-order : (name : List ℕ) (end : ℕ) (text : List ℕ) → length text ≤ end → IsStepInOrder end (length text) (step_at name end text)
step_at-order name end text l =
    step_either end (length text) (comment_len text == 0) (name_step name end text (name_end name text)) (record { element = None; read = comment_len text })
    (name_step-order name end text (name_end name text) l (name_end-short name text)) (omega arith)
