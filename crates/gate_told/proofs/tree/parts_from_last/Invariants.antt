use Rattle.std.proofs.Common.{◌≡◌, map, drop}
use Rattle.spdx_parser.specs.Tree.{node_of}
use Rattle.gate_told.specs.Reading.{start, reading_of, read_back}
use Rattle.gate_told.proofs.tree.parts_from_last.Given as goal

abbrev pub invariant-loop-i : goal.invariant-loop-i
invariant-loop-i l =
    reading_of l.reading ≡ read_back (map node_of (drop l.i l.nodes)) (start l.leaves)
