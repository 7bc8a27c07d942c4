use Rattle.spdx_commands.specs.Simplify.{AreSaidOf}
use Rattle.spdx_commands.proofs.simplification.all_said.Given as goal

abbrev pub invariant-loop-file : goal.invariant-loop-file
invariant-loop-file l = AreSaidOf l.yielded l.all.items
