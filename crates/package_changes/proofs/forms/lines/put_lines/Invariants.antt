use Rattle.std.proofs.Common.{◌≡◌, ◌++◌, flat_map, take}
use Rattle.package_changes.specs.Lines.{line_of}
use Rattle.package_changes.proofs.forms.lines.put_lines.Given as goal

abbrev pub invariant-loop-telling : goal.invariant-loop-telling
invariant-loop-telling l = l.page.items ≡ l.initial.page.items ++ flat_map line_of (take l.telling-index l.tellings)
