use Rattle.std.proofs.Common.{◌≡◌, ◌++◌}
use Rattle.spdx_list.proofs.forms.full_names.joined.Given as goal

abbrev pub invariant-loop-row : goal.invariant-loop-row
invariant-loop-row l = l.all.items ≡ l.initial.all.items ++ l.yielded
