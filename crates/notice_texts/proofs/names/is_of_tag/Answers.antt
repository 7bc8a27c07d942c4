use Rattle.std.proofs.Common.{ap, ◌∙◌}
use Rattle.notice_texts.specs.Names.{stands_for}
use Rattle.notice_texts.proofs.names.is_of_tag.Goals as goal

pub returns : goal.returns
returns c = c.stands_for.ensures ∙ ap (stands_for c.args.tag.now) c.as_bytes.ensures.value
