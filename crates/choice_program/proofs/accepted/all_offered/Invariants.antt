use Rattle.std.proofs.Common.{◌≡◌, map, take}
use Rattle.spdx_parser.specs.Tree.{leaves}
use Rattle.choice_program.specs.Among.{meant_of, trees_in}
use Rattle.choice_program.specs.Named.{named, shown_all}
use Rattle.choice_program.proofs.accepted.all_offered.Given as goal

abbrev pub invariant-loop-one : goal.invariant-loop-one
invariant-loop-one l = shown_all l.all.items ≡ map (λ t. map named (leaves t)) (trees_in (map meant_of (take l.one-index l.stated)))
