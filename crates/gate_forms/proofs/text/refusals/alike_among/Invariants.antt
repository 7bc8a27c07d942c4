use Rattle.std.proofs.Common.{◌≡◌, ◌++◌, map, drop}
use Rattle.std.specs.Prelude.{filter}
use Rattle.gate_forms.specs.Tellings.{is_alike, report_of}
use Rattle.gate_forms.proofs.text.refusals.alike_among.Given as goal

abbrev pub invariant-loop-other : goal.invariant-loop-other
invariant-loop-other l =
    l.alike.items ++ map report_of (filter (is_alike l.told) (drop l.other-index l.others)) ≡ map report_of (filter (is_alike l.told) l.others)
