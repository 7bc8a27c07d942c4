use Rattle.std.proofs.Common.{◌≡◌, List, [], ◌++◌, length, map, append-nil, sym, ap, ◌∙◌, subst, arith}
use Rattle.std.proofs.lemmas.Grind.{common_steps}
use Rattle.license_tags.specs.declared.Tag.{Tag}
use Rattle.license_tags.specs.declared.comment.Comment.{Comment}
use Rattle.license_tags.specs.Comments.{comment_of}
use Rattle.license_tags.specs.Tags.{tags_of}
use Rattle.file_fixes.specs.declared.Span.{Span}
use Rattle.file_fixes.specs.Mending.{AreInOrder}
use Rattle.file_fixes.specs.Spans.{span_of}
use Rattle.file_fixes.proofs.Lines.{tags_in_order}
use Rattle.file_fixes.proofs.spans.tag_spans.Goals as goal

pub returns-clause-in_order : goal.returns-clause-in_order
returns-clause-in_order c =
    let bytes = c.args.bytes.now in
    let tags : List Tag = c.in_ok-tag-items.tag-items.items in
    let are : tags ≡ tags_of (comment_of c.args.path.now) bytes = c.in_ok-tag-items.ensures.value ∙ ap (λ (m : Comment). tags_of m bytes) c.comment_of.ensures in
    let none : c.loop-tag.tag-iterator.rest.items ≡ [] = grind (arith, common_steps) in
    let value : c.loop-tag.spans.items ≡ map span_of (tags_of (comment_of c.args.path.now) bytes) =
    sym (append-nil c.loop-tag.spans.items) ∙ ap (λ (ts : List Tag). c.loop-tag.spans.items ++ map span_of ts) (sym none) ∙ c.loop-tag.invariant in
    subst (λ (ss : List Span). AreInOrder 0 ss (length bytes)) (ap (map span_of) are ∙ sym value)
    (tags_in_order 0 tags (length bytes) c.in_ok-tag-items.ensures.in_order)
