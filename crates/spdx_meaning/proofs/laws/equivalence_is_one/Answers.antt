use Rattle.std.proofs.Common.{refl, sym, ◌∙◌}
use Rattle.spdx_meaning.proofs.laws.equivalence_is_one.Goals as goal

pub returns-clause-itself : goal.returns-clause-itself
returns-clause-itself c = λ t h ok. refl

pub returns-clause-turned : goal.returns-clause-turned
returns-clause-turned c = λ t u same h ok. sym (same h ok)

pub returns-clause-passed_on : goal.returns-clause-passed_on
returns-clause-passed_on c = λ t u v a b h ok. a h ok ∙ b h ok
