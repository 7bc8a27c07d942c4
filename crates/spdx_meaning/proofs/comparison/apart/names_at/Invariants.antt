use Rattle.std.proofs.Common.{◌≡◌, ◌++◌, drop, map, string_bytes}
use Rattle.std.specs.Prelude.{flat_map}
use Rattle.spdx_requirement.specs.Items.{requirement_of}
use Rattle.spdx_meaning.specs.Apart.{name_at}
use Rattle.spdx_meaning.proofs.comparison.apart.names_at.Given as goal

abbrev pub invariant-loop-place : goal.invariant-loop-place
invariant-loop-place l =
    map string_bytes l.names.items ++ flat_map (name_at (map requirement_of l.requirements.items)) (drop l.place-index l.places)
    ≡ flat_map (name_at (map requirement_of l.requirements.items)) l.places
