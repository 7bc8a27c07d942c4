use Rattle.spdx_commands.proofs.Noting.{added}
use Rattle.spdx_commands.proofs.nodes.Nodes.add.Goals as goal

pub returns : goal.returns
returns c = λ other. added c.args.stamp.device c.args.stamp.node other.device other.node _ _ (c.in_ok-insert.ensures.updates.0 (other.device, other.node))
