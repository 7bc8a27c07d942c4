use Rattle.finding_forms.proofs.Excerpts.{part, bound, fault}
use Rattle.finding_forms.proofs.text.excerpt.put_excerpt_line.Goals as goal

pub returns-clause-part : goal.returns-clause-part
returns-clause-part c = part c.args.text.now c.args.start c.utf8.text

pub returns-clause-bound : goal.returns-clause-bound
returns-clause-bound c = bound c.args.text.now c.args.start

pub returns-clause-fault : goal.returns-clause-fault
returns-clause-fault c = fault c.args.text.now c.args.start c.utf8.text
