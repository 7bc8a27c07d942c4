use Rattle.std.proofs.Common.{◌≡◌, ◌++◌, map, take}
use Rattle.package_changes.specs.declared.changes.pairing.Pair.{Pair}
use Rattle.package_changes.specs.Rows.{change_row}
use Rattle.package_changes.specs.Pairing.{stayed_of}
use Rattle.package_changes.specs.Steps.{pair_of}
use Rattle.package_changes.proofs.changes.put_pairs.Given as goal

abbrev pub invariant-loop-pair : goal.invariant-loop-pair
invariant-loop-pair l =
    map change_row l.found.items ≡ map change_row l.initial.found.items ++ map (λ (p : Pair). stayed_of (pair_of p)) (take l.pair-index l.pairs)
