use Rattle.std.proofs.Common.{◌≡◌, take, map}
use Rattle.spdx_requirement.specs.Items.{requirement_of}
use Rattle.spdx_calls.specs.Answers.{lines_text}
use Rattle.spdx_calls.proofs.listing.requirement_lines.Given as goal

abbrev pub invariant-loop-requirement : goal.invariant-loop-requirement
invariant-loop-requirement l = l.text.items ≡ lines_text (map requirement_of (take l.requirement-index l.requirements))
