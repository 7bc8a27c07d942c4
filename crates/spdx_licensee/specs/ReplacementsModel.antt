-- What the replacements of a list show.
use Rattle.std.specs.Prelude.{List, map}
use Rattle.spdx_licensee.specs.declared.replacements.Replacements.TheInside.{Inside}
use Rattle.spdx_licensee.specs.Replacements.{KnownReplacement}
use Rattle.spdx_licensee.specs.Shown.{replacement_shown}

-- one for each row, in their order
abbrev pub replacements_shown : Inside → List KnownReplacement
replacements_shown h = map replacement_shown h.rows.items
