use Rattle.spdx_meaning.specs.Stack.{stack_in}
use Rattle.spdx_meaning.proofs.Machine.{Making}
use Rattle.spdx_meaning.proofs.made.sets_of.Given as goal

abbrev pub invariant-loop-node : goal.invariant-loop-node
invariant-loop-node l = Making l.nodes l.node-index l.numbers l.number (stack_in l.stack.items)
