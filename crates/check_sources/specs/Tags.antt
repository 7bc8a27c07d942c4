-- The expressions behind the license tags of a file.
use Rattle.std.specs.Prelude.{ℕ, ◌==◌, Bool, List, [], map, take, if◌then◌else◌}
use Rattle.std.specs.List.{list_any}
use Rattle.license_tags.specs.declared.Tag.{Tag}
use Rattle.license_tags.specs.Comments.{comment_of}
use Rattle.license_tags.specs.Tags.{tags_of}
use Rattle.check_sources.specs.Findings.{Source}
use Rattle.check_sources.specs.Written.{Written, slice_in}

-- the bytes are no text: a byte 0 stands among the first 8,192
abbrev pub is_binary : List ℕ → Bool
is_binary bytes = list_any (λ b. b == 0) (take 8192 bytes)

-- the expression behind a tag, which is written as it is
abbrev pub tagged_at : List ℕ → Tag → Written
tagged_at bytes tag =
    record { start = tag.start; end = tag.end; text = slice_in bytes tag.start tag.end }

-- those of a file; what is no text has none
abbrev pub tagged : Source → List Written
tagged source =
    if is_binary source.bytes then []
    else map (tagged_at source.bytes) (tags_of (comment_of source.path) source.bytes)
