use Rattle.std.proofs.Common.{◌≡◌, ◌∙◌, map, ap}
use Rattle.spdx_gate.specs.Needs.{entries_needed, need_entry, texts_of}
use Rattle.spdx_gate.proofs.Needing.{needs_work}
use Rattle.spdx_gate.proofs.report.Report.needs.Goals as goal

pub returns-clause-works : goal.returns-clause-works
returns-clause-works c =
    let are : map need_entry c.in_ok-needs.needs.items ≡ entries_needed c.args.self.now =
    c.in_ok-needs.ensures.entries ∙ ap texts_of c.as_slice.ensures.value ∙ c.in_ok-entries.ensures in
    needs_work c.args.self.now c.in_ok-needs.needs.items are
