use Rattle.std.proofs.Common.{◌≡◌, ◌++◌, map, take}
use Rattle.package_changes.specs.declared.package.Package.{Package}
use Rattle.package_changes.specs.Rows.{row_of, change_row, went}
use Rattle.package_changes.proofs.changes.put_old.Given as goal

abbrev pub invariant-loop-package : goal.invariant-loop-package
invariant-loop-package l =
    map change_row l.found.items ≡ map change_row l.initial.found.items ++ map (λ (p : Package). went (row_of p)) (take l.package-index l.old)
