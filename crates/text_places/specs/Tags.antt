-- Tags, comments and CDATA.
use Rattle.std.specs.Prelude.{ℕ, ◌+◌, ◌-◌, Bool, true, false, ◌&&◌, ◌==◌, not, nat_eq, List, [], ◌∷◌, Option, None, Some, length, take, drop, codes, if◌then◌else◌}
use Rattle.std.specs.List.{starts_with, ends_with, prefix_len, suffix_len}
use Rattle.std.specs.Char.{is_ascii_whitespace}
use Rattle.text_places.specs.declared.Span.{Span}
use Rattle.text_places.specs.declared.element_texts.Element.{Element}

-- how many bytes there are up to the end of the mark; all of them where it doesn't occur
abbrev pub through : List ℕ → List ℕ → ℕ
through mark [] = 0
through mark (b ∷ bs) =
    if starts_with nat_eq (b ∷ bs) mark then length mark else 1 + through mark bs

-- how long the comment or CDATA is that the text begins with, or 0
abbrev pub comment_len : List ℕ → ℕ
comment_len text =
    if starts_with nat_eq text (codes "<!--") then 4 + through (codes "-->") (drop 4 text)
    else (if starts_with nat_eq text (codes "<![CDATA[") then 9 +
    through (codes "]]>") (drop 9 text) else 0)

-- what stands behind `<` and the name at the front of the text
abbrev pub name_end : List ℕ → List ℕ → Option (List ℕ)
name_end name [] = None
name_end name (b ∷ bs) =
    if b == 60 && starts_with nat_eq bs name then Some (drop (length name) bs) else None

-- how long it is without the blanks at its end
abbrev pub trimmed_len : List ℕ → ℕ
trimmed_len bytes = length bytes - suffix_len is_ascii_whitespace bytes

-- where these bytes, which begin there, stand without the blanks round them
abbrev pub blank_span : ℕ → List ℕ → Span
blank_span start bytes =
    let front = prefix_len is_ascii_whitespace bytes in
    record { start = start + front; end = start + front + trimmed_len (drop front bytes) }

-- how many bytes stand before the first `<` or `>`
abbrev pub tag_len : List ℕ → ℕ
tag_len bytes = prefix_len (λ b. not (b == 60) && not (b == 62)) bytes

-- how many bytes stand before the first `<`
abbrev pub text_len : List ℕ → ℕ
text_len bytes = prefix_len (λ b. not (b == 60)) bytes

-- the name ends here, and the tag is not one of an empty element, as `<name/>`
abbrev pub is_open_tag : List ℕ → Bool
is_open_tag [] = true
is_open_tag (b ∷ bs) = is_ascii_whitespace b && not (ends_with nat_eq (b ∷ bs) (codes "/"))

-- the text begins with `</`, the name, blanks and `>`
abbrev pub ends_element : List ℕ → List ℕ → Bool
ends_element name (b ∷ c ∷ bs) =
    b == 60 && c == 47 && starts_with nat_eq bs name
    && (let rest = drop (length name) bs in
    starts_with nat_eq (drop (prefix_len is_ascii_whitespace rest) rest) (codes ">"))
ends_element name bytes = false

-- the element with this tag and these bytes behind its `>`, and how many bytes are left behind its
-- text
abbrev pub element_in : List ℕ → ℕ → List ℕ → List ℕ → Option (Element × ℕ)
element_in name end behind [] = None
element_in name end behind (b ∷ inner) =
    let tag = take (tag_len behind) behind in
    let text = text_len inner in
    if b == 62 && is_open_tag tag && ends_element name (drop text inner) then
    Some ((
      record {
        attributes = blank_span (end - length behind) tag;
        text = blank_span (end - length inner) (take text inner);
      },
      length inner - text,
    ))
    else None

-- the element whose tag goes on with these bytes behind its name, in a file with this end
abbrev pub element_behind : List ℕ → ℕ → List ℕ → Option (Element × ℕ)
element_behind name end behind = element_in name end behind (drop (tag_len behind) behind)
