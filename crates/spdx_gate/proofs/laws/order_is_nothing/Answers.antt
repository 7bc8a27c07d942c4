use Rattle.spdx_gate.proofs.Order.{same_verdict}
use Rattle.spdx_gate.proofs.laws.order_is_nothing.Goals as goal

pub returns : goal.returns
returns c = same_verdict
