-- Of which files a run has replaced the bytes.
use Rattle.std.specs.Prelude.{ℕ, Bool}
use Rattle.std.specs.declared.cmp.Ordering.{Ordering}
use Rattle.std.specs.Ordering.{nat_cmp, ordering_then}
use Rattle.std.specs.BTreeSet.{contains}
use Rattle.shelves.specs.declared.shelf.Stamp.{Stamp}
use Rattle.spdx_commands.specs.declared.nodes.Nodes.{Nodes}

abbrev pub node_cmp : ℕ × ℕ → ℕ × ℕ → Ordering
node_cmp x y = ordering_then (nat_cmp x.0 y.0) (nat_cmp x.1 y.1)

-- the file of the stamp is one of them
abbrev pub has_node : Nodes → Stamp → Bool
has_node nodes s = contains node_cmp nodes.known (s.device, s.node)
