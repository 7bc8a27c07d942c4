use Rattle.foreign_text.proofs.PageLaws.{no_markup, reads_back, exact}
use Rattle.foreign_text.proofs.html.put_text.Goals as goal

pub returns-then-is_err-clause-no_markup : goal.returns-then-is_err-clause-no_markup
returns-then-is_err-clause-no_markup c = no_markup c.args.text.now

pub returns-then-is_err-clause-reads_back : goal.returns-then-is_err-clause-reads_back
returns-then-is_err-clause-reads_back c = reads_back c.args.text.now

pub returns-then-is_err-clause-exact : goal.returns-then-is_err-clause-exact
returns-then-is_err-clause-exact c = exact c.args.text.now c.utf8.text

pub returns-else-is_err-clause-no_markup : goal.returns-else-is_err-clause-no_markup
returns-else-is_err-clause-no_markup c = no_markup c.args.text.now

pub returns-else-is_err-clause-reads_back : goal.returns-else-is_err-clause-reads_back
returns-else-is_err-clause-reads_back c = reads_back c.args.text.now

pub returns-else-is_err-clause-exact : goal.returns-else-is_err-clause-exact
returns-else-is_err-clause-exact c = exact c.args.text.now c.utf8.text
