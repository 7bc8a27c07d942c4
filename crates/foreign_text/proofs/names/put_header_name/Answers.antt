use Rattle.std.proofs.Common.{append_assoc}
use Rattle.foreign_text.proofs.Headers.{reads_back}
use Rattle.foreign_text.proofs.names.put_header_name.Goals as goal

pub returns-in_err-put_shown-clause-reads_back : goal.returns-in_err-put_shown-clause-reads_back
returns-in_err-put_shown-clause-reads_back c = reads_back c.args.name.now c.utf8.name

pub returns-in_err-put_tab-clause-reads_back : goal.returns-in_err-put_tab-clause-reads_back
returns-in_err-put_tab-clause-reads_back c = reads_back c.args.name.now c.utf8.name

pub returns-clause-reads_back : goal.returns-clause-reads_back
returns-clause-reads_back c = reads_back c.args.name.now c.utf8.name
