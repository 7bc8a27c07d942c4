use Rattle.std.proofs.Common.{sym, ◌∙◌}
use Rattle.selections.proofs.Unique.{only_one}
use Rattle.spdx_meaning.proofs.laws.minimal_sets_are_one.Goals as goal

pub returns : goal.returns
returns c = λ t sets others a b. only_one sets others (λ p. sym (a.at_places p) ∙ b.at_places p) a.apart b.apart a.rise b.rise a.ordered b.ordered
