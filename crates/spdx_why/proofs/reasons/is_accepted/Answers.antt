use Rattle.std.proofs.Common.{◌∙◌, ap, ℕ, List, length}
use Rattle.std.specs.Prelude.{map, ◌==◌}
use Rattle.spdx_evaluation.specs.Postfix.{tree_in}
use Rattle.spdx_why.specs.Marks.{allows}
use Rattle.spdx_why.proofs.Hanging.{empty_missing}
use Rattle.spdx_why.proofs.reasons.is_accepted.Goals as goal

pub returns : goal.returns
returns c =
    c.is_empty.ensures
    ∙ ap (λ (z : List ℕ). length z == 0) (c.as_slice.ensures.value ∙ c.in_ok-missing.ensures.exact)
    ∙ empty_missing (tree_in c.args.nodes.now) (map allows c.args.marks.now)
