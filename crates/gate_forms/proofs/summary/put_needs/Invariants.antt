use Rattle.std.proofs.Common.{◌≡◌, ◌++◌, take, flat_map, string_bytes}
use Rattle.gate_forms.specs.Summary.{next_need}
use Rattle.gate_forms.proofs.summary.put_needs.Given as goal

abbrev pub invariant-loop-need : goal.invariant-loop-need
invariant-loop-need l =
    string_bytes l.lines ≡ string_bytes l.initial.lines ++ flat_map next_need (take l.need-index l.others)
