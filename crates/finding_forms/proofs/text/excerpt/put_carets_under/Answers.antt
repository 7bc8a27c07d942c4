use Rattle.finding_forms.proofs.Excerpts.{under, all}
use Rattle.finding_forms.proofs.text.excerpt.put_carets_under.Goals as goal

pub returns-clause-under : goal.returns-clause-under
returns-clause-under c = under c.args.text.now c.args.start c.args.end c.utf8.text

pub returns-clause-all : goal.returns-clause-all
returns-clause-all c = all c.args.text.now c.args.start c.args.end
