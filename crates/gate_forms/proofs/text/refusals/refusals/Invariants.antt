use Rattle.std.proofs.Common.{◌≡◌, [], ◌++◌, take, drop, string_bytes}
use Rattle.gate_forms.specs.Tellings.{refusals_told}
use Rattle.gate_forms.proofs.text.refusals.refusals.Given as goal

abbrev pub invariant-loop-number : goal.invariant-loop-number
invariant-loop-number l =
    string_bytes l.lines ++ refusals_told l.style (take l.number l.all) (drop l.number l.all) ≡ refusals_told l.style [] l.all
