use Rattle.std.proofs.Common.{ap, sym, ◌∙◌, ◌++◌, List}
use Rattle.std.proofs.lemmas.List.{append-nil}
use Rattle.gate_forms.specs.declared.reports.Leaf.{Leaf}
use Rattle.gate_told.proofs.Moving.{leaf_none}
use Rattle.gate_told.proofs.breakdowns.add_at.Goals as goal

pub returns-in-None : goal.returns-in-None
returns-in-None c =
    sym (append-nil c.args.those.now.items)
    ∙ ap (λ (xs : List Leaf). c.args.those.now.items ++ xs) (sym (leaf_none c.args.leaves.now c.args.number c.get.result c.get.ensures.lookup c.in-None.is))
