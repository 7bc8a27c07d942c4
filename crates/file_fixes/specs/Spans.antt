-- Where the expressions of a text stand: those of its lines, or those behind its license tags.
use Rattle.std.specs.Prelude.{ℕ, ◌+◌, List, [], ◌∷◌, ◌++◌, length, map, if◌then◌else◌}
use Rattle.line_engine.specs.Lines.{lines_of}
use Rattle.license_tags.specs.declared.Tag.{Tag}
use Rattle.license_tags.specs.Comments.{comment_of}
use Rattle.license_tags.specs.Tags.{tags_of}
use Rattle.spdx_check.specs.Checking.{expression_of, is_blank}
use Rattle.check_sources.specs.Tags.{is_binary}
use Rattle.file_fixes.specs.declared.Span.{Span}

-- the place of the expression of a line that begins at this offset; a blank line has none
abbrev pub line_span : ℕ → List ℕ → List Span
line_span offset line =
    let expression = expression_of line in
    if is_blank expression then []
    else record { start = offset; end = offset + length expression } ∷ []

-- the same of lines, the first of which begins at this offset
abbrev pub spans_from : ℕ → List (List ℕ) → List Span
spans_from offset [] = []
spans_from offset (line ∷ lines) =
    line_span offset line ++ spans_from (offset + (length line + 1)) lines

-- those of the lines of a text
abbrev pub line_spans : List ℕ → List Span
line_spans bytes = spans_from 0 (lines_of bytes)

abbrev pub span_of : Tag → Span
span_of tag = record { start = tag.start; end = tag.end }

-- those behind the tags of a file at a path; what is no text has none
abbrev pub tag_spans : List ℕ → List ℕ → List Span
tag_spans path bytes =
    if is_binary bytes then [] else map span_of (tags_of (comment_of path) bytes)
