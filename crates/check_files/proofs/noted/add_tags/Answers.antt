use Rattle.std.proofs.Common.{map, string_bytes}
use Rattle.check_files.specs.Noted.{tag_text}
use Rattle.check_files.proofs.Needed.{begun, further}
use Rattle.check_files.proofs.noted.add_tags.Goals as goal

pub loop-tag-init : goal.loop-tag-init
loop-tag-init c = begun c.args.check.now.catalogue.now c.args.check.now.mode (map string_bytes c.args.used.now.items)

pub loop-tag-preserved : goal.loop-tag-preserved
loop-tag-preserved c =
    further (tag_text c.args.bytes.now) c.args.check.now.catalogue.now c.args.check.now.mode c.args.tags.now c.loop-tag.tag-index _ _ _ _ _ c.loop-tag-test.true c.loop-tag.invariant c.slice_in-expression.ensures c.in_ok-add_needed.ensures
