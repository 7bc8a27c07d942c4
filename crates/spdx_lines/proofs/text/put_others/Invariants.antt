use Rattle.std.proofs.Common.{◌≡◌, ◌++◌, take, map, codes}
use Rattle.std.specs.List.{flat_map}
use Rattle.spdx_requirement.specs.Items.{requirement_of}
use Rattle.spdx_requirement.specs.Texts.{requirement_text}
use Rattle.spdx_lines.proofs.text.put_others.Given as goal

abbrev pub invariant-loop-requirement : goal.invariant-loop-requirement
invariant-loop-requirement l =
    l.text.items ≡ l.initial.text.items ++ flat_map (λ r. codes ", " ++ requirement_text r) (map requirement_of (take l.requirement-index l.requirements))
