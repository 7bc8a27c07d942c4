use Rattle.std.proofs.Common.{◌≡◌, map, take}
use Rattle.package_changes.specs.Rows.{row_of}
use Rattle.changes_program.specs.Packages.{row_in}
use Rattle.changes_program.proofs.packages.packages_of.Given as goal

abbrev pub invariant-loop-one : goal.invariant-loop-one
invariant-loop-one l = map row_of l.packages.items ≡ map row_in (take l.one-index l.listed)
