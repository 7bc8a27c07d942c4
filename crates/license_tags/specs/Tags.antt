-- Where the expressions stand behind the tags of a file.
use Rattle.std.specs.Prelude.{ℕ, ◌+◌, ◌-◌, ◌≤◌, Bool, false, not, ◌||◌, ◌&&◌, ◌==◌, nat_eq, List, [], ◌∷◌, ◌++◌, Option, None, Some, option_map, length, take, drop, codes, if◌then◌else◌}
use Rattle.std.specs.List.{starts_with, prefix_len, suffix_len}
use Rattle.std.specs.Option.{is_some, option_to_list}
use Rattle.std.specs.Char.{is_ascii_whitespace}
use Rattle.line_engine.specs.Lines.{lines_of}
use Rattle.license_tags.specs.Comments.{begins_comment}
use Rattle.license_tags.specs.declared.comment.Comment.{Comment}
use Rattle.license_tags.specs.declared.Tag.{Tag}

-- what stands before an expression
unfoldable pub tag_text : List ℕ
tag_text = codes "SPDX-License-Identifier:"

-- what stands in the first line of an ignored block
unfoldable pub start_text : List ℕ
start_text = codes "REUSE-IgnoreStart"

-- what stands in its last line
unfoldable pub end_text : List ℕ
end_text = codes "REUSE-IgnoreEnd"

-- how many bytes stand before the first place where a text stands in these bytes
abbrev pub place_of : List ℕ → List ℕ → Option ℕ
place_of text [] = None
place_of text (b ∷ bs) =
    if starts_with nat_eq (b ∷ bs) text then Some 0 else option_map (λ n. 1 + n) (place_of text bs)

abbrev pub holds : List ℕ → List ℕ → Bool
holds text bytes = is_some (place_of text bytes)

-- quotation marks: `"`, `'` and a backquote
abbrev pub is_quote : ℕ → Bool
is_quote b = b == 34 || b == 39 || b == 96

abbrev pub is_opening : ℕ → Bool
is_opening b = is_ascii_whitespace b || is_quote b

-- how many bytes stand before an expression: blanks, and behind the first of them quotes too; a
-- quote at once closes
abbrev pub opening_len : List ℕ → ℕ
opening_len [] = 0
opening_len (b ∷ bs) = if is_ascii_whitespace b then 1 + prefix_len is_opening bs else 0

-- these bytes begin with what ends a text: a quote, a backslash (as of `\n`) or `<` (as of `</p>`)
unfoldable pub ends_text : List ℕ → Bool
ends_text bytes =
    starts_with nat_eq bytes (codes "\"")
    || starts_with nat_eq bytes (codes "'")
    || starts_with nat_eq bytes (codes "`")
    || starts_with nat_eq bytes (codes "\\")
    || starts_with nat_eq bytes (codes "<")

-- these bytes begin with what ends a comment: of C, ML, HTML, Haskell, Jinja, Lua or XML
unfoldable pub ends_comment : List ℕ → Bool
ends_comment bytes =
    starts_with nat_eq bytes (codes "*/")
    || starts_with nat_eq bytes (codes "*)")
    || starts_with nat_eq bytes (codes "-->")
    || starts_with nat_eq bytes (codes "-}")
    || starts_with nat_eq bytes (codes "#}")
    || starts_with nat_eq bytes (codes "]]")
    || starts_with nat_eq bytes (codes "?>")

-- the same, in a frame of stars, as LLVM's; of Razor or Velocity
unfoldable pub ends_starred_comment : List ℕ → Bool
ends_starred_comment bytes =
    starts_with nat_eq bytes (codes "**/")
    || starts_with nat_eq bytes (codes "*|")
    || starts_with nat_eq bytes (codes "*@")
    || starts_with nat_eq bytes (codes "*#")

-- the same: of JSP, ERB, Handlebars, Lisp, PowerShell, Matlab, Julia or Nim
unfoldable pub ends_script_comment : List ℕ → Bool
ends_script_comment bytes =
    starts_with nat_eq bytes (codes "--%>")
    || starts_with nat_eq bytes (codes "%>")
    || starts_with nat_eq bytes (codes "--}}")
    || starts_with nat_eq bytes (codes "|#")
    || starts_with nat_eq bytes (codes "#>")
    || starts_with nat_eq bytes (codes "%}")
    || starts_with nat_eq bytes (codes "=#")
    || starts_with nat_eq bytes (codes "]#")

-- these bytes begin with what no expression goes on with in this kind of file
abbrev pub closes : Comment → List ℕ → Bool
closes comment bytes =
    ends_text bytes || ends_comment bytes || ends_starred_comment bytes ||
    ends_script_comment bytes || begins_comment comment bytes

-- how many bytes stand before the first closing
abbrev pub closing_place : Comment → List ℕ → ℕ
closing_place comment [] = 0
closing_place comment (b ∷ bs) = if closes comment (b ∷ bs) then 0 else 1 + closing_place comment bs

-- how long they are without the blanks at their end
abbrev pub trimmed_len : List ℕ → ℕ
trimmed_len bytes = length bytes - suffix_len is_ascii_whitespace bytes

-- how long the expression is that these bytes begin with: up to the first closing or the end, less
-- blanks
abbrev pub expression_len : Comment → List ℕ → ℕ
expression_len comment bytes = trimmed_len (take (closing_place comment bytes) bytes)

-- the tag at a place in a line with this number that begins at this offset
abbrev pub tag_at : Comment → ℕ → ℕ → List ℕ → ℕ → Tag
tag_at comment number offset line place =
    let behind = place + length tag_text in
    let start = behind + opening_len (drop behind line) in
    let end = start + expression_len comment (drop start line) in
    record { line = number; start = offset + start; end = offset + end }

-- a line belongs to an ignored block: one is open before it, or begins in it
abbrev pub is_inside : Bool → List ℕ → Bool
is_inside opened line = opened || holds start_text line

-- a block is open behind a line: the line belongs to it, and doesn't end it
abbrev pub is_open_behind : Bool → List ℕ → Bool
is_open_behind inside line = inside && not (holds end_text line)

-- the tags of a line, the first of those that stand in it: none of a line that belongs to a block
abbrev pub line_tags : Comment → Bool → ℕ → ℕ → List ℕ → List Tag
line_tags comment inside number offset line =
    if inside then [] else option_to_list
    (option_map (tag_at comment number offset line) (place_of tag_text line))

-- the tags of these lines, the first of which has this number and begins at this offset, and before
-- which a block is open or not
abbrev pub tags_from : Comment → Bool → ℕ → ℕ → List (List ℕ) → List Tag
tags_from comment opened number offset [] = []
tags_from comment opened number offset (line ∷ lines) =
    let inside = is_inside opened line in
    line_tags comment inside number offset line
    ++ tags_from comment (is_open_behind inside line) (number + 1) (offset + (length line + 1))
    lines

-- the tags of a file
abbrev pub tags_of : Comment → List ℕ → List Tag
tags_of comment bytes = tags_from comment false 1 0 (lines_of bytes)

-- the expressions lie between these offsets, in order and apart from one another
abbrev pub AreInOrder : ℕ → List Tag → ℕ → Type 0
AreInOrder low [] high = low ≤ high
AreInOrder low (tag ∷ tags) high =
    (low ≤ tag.start) × (tag.start ≤ tag.end) × AreInOrder tag.end tags high
