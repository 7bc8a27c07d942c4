use Rattle.std.proofs.Common.{◌≡◌, ◌++◌, drop, map}
use Rattle.std.specs.Prelude.{codes, string_bytes}
use Rattle.selections.specs.Sets.{set_of}
use Rattle.spdx_requirement.specs.Items.{requirement_of}
use Rattle.spdx_meaning.specs.Joined.{joined, more_joined}
use Rattle.spdx_meaning.specs.Ranks.{name_at}
use Rattle.spdx_meaning.proofs.text.put_sets.Given as goal

abbrev pub invariant-loop-set : goal.invariant-loop-set
invariant-loop-set l =
    string_bytes l.text ++ more_joined (codes " OR ") (λ s. joined (codes " AND ") (name_at (map requirement_of l.requirements)) (set_of s)) (drop l.set-index l.others)
    ≡ string_bytes l.fn.text ++ joined (codes " OR ") (λ s. joined (codes " AND ") (name_at (map requirement_of l.requirements)) (set_of s)) l.sets
