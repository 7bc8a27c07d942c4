use Rattle.std.proofs.Common.{◌≡◌, [], ◌∷◌, take, drop}
use Rattle.std.specs.List.{filter}
use Rattle.spdx_requirement.specs.Items.{requirement_of}
use Rattle.spdx_parser.specs.Tree.{Leaf}
use Rattle.spdx_minimize.specs.Choice.{first_ones, satisfies_some, useful}
use Rattle.spdx_minimize.proofs.choice.first.first_useful.Given as goal

abbrev pub invariant-loop-place : goal.invariant-loop-place
invariant-loop-place l =
    filter (satisfies_some (Leaf (requirement_of l.requirement) ∷ [])) (first_ones (take l.place l.accepted) (drop l.place l.accepted)) ≡ useful (Leaf (requirement_of l.requirement) ∷ []) l.accepted
