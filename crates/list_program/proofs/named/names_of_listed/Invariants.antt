-- The rows that are kept so far.
use Rattle.std.specs.Prelude.{◌≡◌, filter, map}
use Rattle.spdx_requirement.specs.Rows.{imprecise_of}
use Rattle.list_program.specs.Named.{is_of_listed}
use Rattle.list_program.proofs.named.names_of_listed.Given as goal

abbrev pub invariant-loop-row : goal.invariant-loop-row
invariant-loop-row l = map imprecise_of l.kept.items ≡ filter (is_of_listed l.fn.listed) (map imprecise_of l.yielded)
