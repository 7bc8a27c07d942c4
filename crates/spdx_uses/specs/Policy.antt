-- What is allowed to those who accept some licences.
use Rattle.std.specs.Prelude.{Bool, not, List, [], cond, map}
use Rattle.std.specs.List.{filter, list_any}
use Rattle.spdx.specs.Choice.{holds}
use Rattle.spdx.specs.Items.{Requirement}
use Rattle.spdx.specs.Satisfies.{satisfies}
use Rattle.spdx.specs.Words.{Span}
use Rattle.spdx.specs.Value.{Written, placed}

-- some accepted licence satisfies the requirement
abbrev pub accepts : List Requirement → Requirement → Bool
accepts accepted r = list_any (λ licensee. satisfies licensee r) accepted

-- the places of the requirements that no accepted licence satisfies, where the expression is not
-- true without them
abbrev pub explained : List Requirement → Written → List Span
explained accepted e =
    cond (holds (accepts accepted) e.tree) []
    (map (λ p. p.1) (filter (λ p. not (accepts accepted p.0)) (placed e)))
