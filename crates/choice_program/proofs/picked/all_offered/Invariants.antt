use Rattle.std.proofs.Common.{◌≡◌, map, take}
use Rattle.spdx_parser.specs.Tree.{leaves}
use Rattle.choice_program.specs.Named.{named, shown_all}
use Rattle.choice_program.specs.Picked.{pick_of, tree_of}
use Rattle.choice_program.proofs.picked.all_offered.Given as goal

abbrev pub invariant-loop-one : goal.invariant-loop-one
invariant-loop-one l = shown_all l.all.items ≡ map (λ x. map named (leaves (tree_of x))) (map pick_of (take l.one-index l.own))
