use Rattle.std.proofs.Common.{◌≡◌, ◌++◌, map, drop}
use Rattle.choice_program.specs.Named.{shown_all}
use Rattle.choice_program.specs.Picked.{pick_of}
use Rattle.choice_program.proofs.Joining.{told_from}
use Rattle.choice_program.proofs.picked.all_parts.Given as goal

abbrev pub invariant-loop-number : goal.invariant-loop-number
invariant-loop-number l = shown_all l.all.items ++ told_from l.remedies l.number (map pick_of (drop l.number l.own)) ≡ told_from l.remedies 0 (map pick_of l.own)
