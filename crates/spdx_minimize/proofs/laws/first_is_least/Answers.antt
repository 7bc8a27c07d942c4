use Rattle.spdx_minimize.proofs.Selections.{least_of-IsLeast, IsLeast-least_of}
use Rattle.spdx_minimize.proofs.laws.first_is_least.Goals as goal

pub returns : goal.returns
returns c = λ suffices n s. (least_of-IsLeast suffices n s, IsLeast-least_of suffices n s)
