use Rattle.notice_texts.proofs.Holding.{takes}
use Rattle.notice_texts.proofs.keyed.take.Goals as goal

pub returns-clause-left : goal.returns-clause-left
returns-clause-left c = takes c.args.holders.now c.remove.new.self c.args.key.now c.remove.ensures.updates
