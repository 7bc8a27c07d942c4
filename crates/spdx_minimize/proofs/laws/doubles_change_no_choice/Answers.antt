use Rattle.spdx_minimize.proofs.Doubles.{choice_same}
use Rattle.spdx_minimize.proofs.laws.doubles_change_no_choice.Goals as goal

pub returns : goal.returns
returns c = λ trees others licensees same. choice_same trees others same licensees
