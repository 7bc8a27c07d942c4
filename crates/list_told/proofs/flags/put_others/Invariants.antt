use Rattle.std.proofs.Common.{◌≡◌, ◌++◌, flat_map, take}
use Rattle.std.specs.Prelude.{codes}
use Rattle.spdx_list.specs.Diff.{nows}
use Rattle.list_told.proofs.flags.put_others.Given as goal

abbrev pub invariant-loop-word : goal.invariant-loop-word
invariant-loop-word l =
    l.text.items ≡ l.initial.text.items ++ flat_map (λ w. codes ", " ++ w) (nows (take l.word-index l.words))
