use Rattle.std.proofs.Common.{arith, ◌∙◌, sym, ap, []}
use Rattle.selections.specs.Truths.{Stack, words_bits}
use Rattle.selections.proofs.Words.{pop_two_bits, fourth_fits}
use Rattle.selections.proofs.truths.Truths.take_two.Goals as goal

pub invariant_of-self : goal.invariant_of-self
invariant_of-self c = (omega (arith, c.self.invariant.0), fourth_fits c.self.inside.used c.self.inside.top c.if-self-lt2.false c.self.invariant.1)

pub returns-clause-items : goal.returns-clause-items
returns-clause-items c =
    sym (ap (λ (s : Stack). s.items) c.self.view_is)
    ∙ pop_two_bits c.self.inside.used c.self.inside.top (words_bits c.self.inside.full.items []) c.if-self-lt2.false
