use Rattle.std.proofs.Common.{rules}
use Rattle.notice_texts.proofs.Stems.{stem_at}
use Rattle.notice_texts.proofs.lacking.stem.Goals as goal

pub returns-in-Some : goal.returns-in-Some
returns-in-Some c =
    let split = stem_at c.args.file.now _ c.rsplit_once.ensures.cases in
    rw split (grind rules)

pub returns-in_default : goal.returns-in_default
returns-in_default c =
    let split = stem_at c.args.file.now _ c.rsplit_once.ensures.cases in
    rw split (grind rules)
