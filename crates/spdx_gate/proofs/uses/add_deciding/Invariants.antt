use Rattle.std.proofs.Common.{◌≡◌, take}
use Rattle.std.specs.Prelude.{◌||◌}
use Rattle.std.specs.List.{list_any}
use Rattle.spdx_policy.specs.declared.decision.Entry.{Entry}
use Rattle.spdx_gate.specs.Reports.{is_by}
use Rattle.spdx_gate.specs.Used.{has_entry}
use Rattle.spdx_gate.proofs.uses.add_deciding.Given as goal

abbrev pub invariant-loop-decision : goal.invariant-loop-decision
invariant-loop-decision l =
    (e : Entry) → has_entry l.entries e ≡ (has_entry l.initial.entries e || list_any (is_by e) (take l.decision-index l.decisions))
