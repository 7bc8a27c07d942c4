use Rattle.std.proofs.Common.{◌≡◌, ◌++◌, map}
use Rattle.license_tags.specs.Comments.{comment_of}
use Rattle.license_tags.specs.Tags.{tags_of}
use Rattle.check_sources.specs.Stood.{stood}
use Rattle.check_sources.specs.Tags.{tagged_at}
use Rattle.check_sources.proofs.findings.tags.tagged.Given as goal

abbrev pub invariant-loop-tag : goal.invariant-loop-tag
invariant-loop-tag l =
    let bytes = l.source.bytes.now in
    map stood l.all.items ++ map (tagged_at bytes) l.tag-iterator.rest.items ≡ map (tagged_at bytes) (tags_of (comment_of l.source.path.now) bytes)
