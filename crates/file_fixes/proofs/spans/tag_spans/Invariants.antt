use Rattle.std.proofs.Common.{◌≡◌, ◌++◌, map}
use Rattle.license_tags.specs.Comments.{comment_of}
use Rattle.license_tags.specs.Tags.{tags_of}
use Rattle.file_fixes.specs.Spans.{span_of}
use Rattle.file_fixes.proofs.spans.tag_spans.Given as goal

abbrev pub invariant-loop-tag : goal.invariant-loop-tag
invariant-loop-tag l =
    l.spans.items ++ map span_of l.tag-iterator.rest.items ≡ map span_of (tags_of (comment_of l.path) l.bytes)
