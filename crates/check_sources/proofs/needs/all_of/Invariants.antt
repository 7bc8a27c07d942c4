use Rattle.std.proofs.Common.{◌≡◌, flat_map, map, string_bytes, take}
use Rattle.check_sources.specs.Needs.{node_texts}
use Rattle.check_sources.proofs.needs.all_of.Given as goal

abbrev pub invariant-loop-node : goal.invariant-loop-node
invariant-loop-node l = map string_bytes l.names.items ≡ flat_map node_texts (take l.node-index l.nodes)
