use Rattle.std.proofs.Common.{append_assoc}
use Rattle.package_changes.specs.Lines.{enough_texts}
use Rattle.package_changes.proofs.forms.lines.put_enough_notes.Goals as goal

pub returns : goal.returns
unfolding enough_texts
returns c = rw (c.in_ok-put_enough-2.ensures, c.in_ok-put_enough.ensures) (simp append_assoc)
