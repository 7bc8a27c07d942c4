use Rattle.package_changes.proofs.Inside.{inside}
use Rattle.package_changes.proofs.forms.put_changes.Goals as goal

pub returns-in_err-written-clause-inside : goal.returns-in_err-written-clause-inside
returns-in_err-written-clause-inside c = inside

pub returns-clause-inside : goal.returns-clause-inside
returns-clause-inside c = inside
