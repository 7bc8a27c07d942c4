use Rattle.std.proofs.Common.{◌≡◌, ◌≤◌, ◌+◌, ◌-◌, length, drop, map}
use Rattle.package_changes.specs.Rows.{row_of}
use Rattle.package_changes.specs.Pairing.{is_like, pair_all}
use Rattle.package_changes.specs.Steps.{before, paired_of}
use Rattle.package_changes.proofs.changes.pairing.pair_in_order.Given as goal

-- what was found, and behind it what is found of the rest, is what is found of all
abbrev pub invariant-loop-in_old : goal.invariant-loop-in_old
invariant-loop-in_old l =
    (l.in_old ≤ length l.old) × (l.in_new ≤ length l.new) ×
    (before (paired_of l.found) (pair_all (is_like l.likeness) (map row_of (drop l.in_old l.old)) (map row_of (drop l.in_new l.new)))
    ≡ pair_all (is_like l.likeness) (map row_of l.old) (map row_of l.new))

abbrev pub decreases-loop-in_old : goal.decreases-loop-in_old
decreases-loop-in_old l = (length l.old - l.in_old) + (length l.new - l.in_new)
