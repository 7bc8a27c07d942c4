use Rattle.std.proofs.Common.{◌≡◌, ◌++◌, drop, map}
use Rattle.std.specs.Prelude.{codes, string_bytes}
use Rattle.spdx_requirement.specs.Items.{requirement_of}
use Rattle.spdx_meaning.specs.Joined.{joined, more_joined}
use Rattle.spdx_meaning.specs.Ranks.{name_at}
use Rattle.spdx_meaning.proofs.text.put_set.Given as goal

abbrev pub invariant-loop-rank : goal.invariant-loop-rank
invariant-loop-rank l =
    string_bytes l.text ++ more_joined (codes " AND ") (name_at (map requirement_of l.requirements)) (drop l.rank-index l.others)
    ≡ string_bytes l.fn.text ++ joined (codes " AND ") (name_at (map requirement_of l.requirements)) l.set
