use Rattle.std.proofs.Common.{◌∙◌}
use Rattle.std.specs.Option.{option_copied}
use Rattle.owed_texts.proofs.Texts.{let_be}
use Rattle.owed_texts.proofs.held.text.Goals as goal

pub returns-in-Err-Refused-clause-ok : goal.returns-in-Err-Refused-clause-ok
returns-in-Err-Refused-clause-ok g c =
    let_be (g.S.Shelf.told c.args.shelf.now) c.args.folder c.args.name.now c.as_str.result.now (option_copied c.inside.result) _ c.in-Err-Refused.trouble c.in-Err-Refused.field-0-is
    c.in-Err-Refused.ensures.err c.inside.ensures (c.as_str.ensures.value ∙ c.in_ok-path.ensures) (rw c.in-Err-Refused.trouble-is at c.in_ok-unless_missing-in-Err-Refused.ensures.ok)
