use Rattle.std.proofs.Common.{map}
use Rattle.spdx_why.specs.Marks.{allows}
use Rattle.spdx_why.proofs.Listing.{Listing}
use Rattle.spdx_why.proofs.reasons.missing.Given as goal

abbrev pub invariant-loop-node : goal.invariant-loop-node
invariant-loop-node l = Listing (map allows l.marks) l.nodes l.node-index l.number l.missing.items l.parts.items
