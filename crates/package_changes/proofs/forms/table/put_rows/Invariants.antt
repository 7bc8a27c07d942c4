use Rattle.std.proofs.Common.{◌≡◌, ◌++◌, flat_map, take}
use Rattle.package_changes.specs.Table.{row_of}
use Rattle.package_changes.proofs.forms.table.put_rows.Given as goal

abbrev pub invariant-loop-telling : goal.invariant-loop-telling
invariant-loop-telling l = l.page.items ≡ l.initial.page.items ++ flat_map row_of (take l.telling-index l.tellings)
