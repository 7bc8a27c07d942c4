use Rattle.std.proofs.Common.{map, string_bytes}
use Rattle.check_program.specs.Ends.{AreSortedOut}
use Rattle.check_program.proofs.texts.sorted_out.Given as goal

abbrev pub invariant-loop-seen : goal.invariant-loop-seen
invariant-loop-seen l = AreSortedOut l.yielded (map string_bytes l.texts.files.items) l.texts.troubles.items
