use Rattle.notice_forms.specs.Told.{told}
use Rattle.notice_forms.proofs.Fenced.{stays_fenced}
use Rattle.notice_forms.proofs.Heads.{begins_plainly}
use Rattle.notice_forms.proofs.Naming.{names_its_texts}
use Rattle.notice_forms.proofs.Seeing.{is_shown}
use Rattle.notice_forms.proofs.put_page.Goals as goal

pub returns-in_err-whole-clause-shown : goal.returns-in_err-whole-clause-shown
returns-in_err-whole-clause-shown c = is_shown (told c.args.shown.now)

pub returns-in_err-extend_from_slice-clause-shown : goal.returns-in_err-extend_from_slice-clause-shown
returns-in_err-extend_from_slice-clause-shown c = is_shown (told c.args.shown.now)

pub returns-clause-shown : goal.returns-clause-shown
returns-clause-shown c = is_shown (told c.args.shown.now)

pub returns-in_err-whole-clause-fenced : goal.returns-in_err-whole-clause-fenced
returns-in_err-whole-clause-fenced c = stays_fenced

pub returns-in_err-extend_from_slice-clause-fenced : goal.returns-in_err-extend_from_slice-clause-fenced
returns-in_err-extend_from_slice-clause-fenced c = stays_fenced

pub returns-clause-fenced : goal.returns-clause-fenced
returns-clause-fenced c = stays_fenced

pub returns-in_err-whole-clause-head : goal.returns-in_err-whole-clause-head
returns-in_err-whole-clause-head c = begins_plainly (told c.args.shown.now)

pub returns-in_err-extend_from_slice-clause-head : goal.returns-in_err-extend_from_slice-clause-head
returns-in_err-extend_from_slice-clause-head c = begins_plainly (told c.args.shown.now)

pub returns-clause-head : goal.returns-clause-head
returns-clause-head c = begins_plainly (told c.args.shown.now)

pub returns-in_err-whole-clause-names : goal.returns-in_err-whole-clause-names
returns-in_err-whole-clause-names c = names_its_texts (told c.args.shown.now)

pub returns-in_err-extend_from_slice-clause-names : goal.returns-in_err-extend_from_slice-clause-names
returns-in_err-extend_from_slice-clause-names c = names_its_texts (told c.args.shown.now)

pub returns-clause-names : goal.returns-clause-names
returns-clause-names c = names_its_texts (told c.args.shown.now)
