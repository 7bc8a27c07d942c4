use Rattle.std.proofs.Common.{◌≡◌, ◌++◌, flat_map, string_bytes, take}
use Rattle.std.specs.Prelude.{codes}
use Rattle.spdx_list.specs.Diff.{nows}
use Rattle.list_told.proofs.unlisted.put_others.Given as goal

abbrev pub invariant-loop-name : goal.invariant-loop-name
invariant-loop-name l =
    string_bytes l.told ≡ string_bytes l.initial.told ++ flat_map (λ n. codes ", " ++ n) (nows (take l.name-index l.names))
