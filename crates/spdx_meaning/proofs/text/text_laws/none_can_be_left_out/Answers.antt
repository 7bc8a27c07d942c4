use Rattle.spdx_meaning.proofs.Needed.{all_needed}
use Rattle.spdx_meaning.proofs.text.text_laws.none_can_be_left_out.Goals as goal

pub returns : goal.returns
returns c = λ t sets least. all_needed t sets least
