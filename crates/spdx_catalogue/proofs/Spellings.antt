-- A part of what an imprecise spelling means.
use Rattle.std.specs.Prelude.{ℕ, List, Option, find}
use Rattle.spdx_requirement.specs.Rows.{ImpreciseRow}
use Rattle.spdx_catalogue.specs.Names.{begins_caseless}

-- the first prefix that the text begins with, the case of ASCII letters aside
abbrev pub imprecise_row : List ImpreciseRow → List ℕ → Option ImpreciseRow
imprecise_row rows text = find (λ (r : ImpreciseRow). begins_caseless r.prefix text) rows
