use Rattle.std.proofs.Common.{◌≡◌, ◌++◌, map, vec_len, string_bytes}
use Rattle.spdx_parser.specs.Tree.{Tree, postfix, node_of}
use Rattle.spdx_canonical.specs.Normal.{normal_text}
use Rattle.spdx_canonical.specs.Plan.{pieces_text}
use Rattle.spdx_canonical.proofs.normal.normal_text.Given as goal

abbrev pub invariant-loop-piece : goal.invariant-loop-piece
invariant-loop-piece l = (t : Tree) → map node_of l.fn.nodes ≡ postfix t → string_bytes l.text ++ pieces_text l.nodes l.pieces.items ≡ normal_text t

abbrev pub decreases-loop-piece : goal.decreases-loop-piece
decreases-loop-piece l = vec_len l.pieces
