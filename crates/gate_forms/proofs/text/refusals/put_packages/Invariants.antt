use Rattle.std.proofs.Common.{◌≡◌, ◌++◌, take, flat_map, codes, string_bytes}
use Rattle.foreign_text.specs.declared.sinks.Sink.TheVariants.{Line}
use Rattle.gate_forms.specs.declared.reports.Report.{Report}
use Rattle.gate_forms.specs.Report.{package_text}
use Rattle.gate_forms.proofs.text.refusals.put_packages.Given as goal

abbrev pub invariant-loop-other : goal.invariant-loop-other
invariant-loop-other l =
    string_bytes l.lines ≡ string_bytes l.initial.lines ++ flat_map (λ (r : Report). codes ", " ++ package_text Line r) (take l.other-index l.others)
