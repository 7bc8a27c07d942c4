use Rattle.std.proofs.Common.{◌≡◌, string_bytes, flat_map}
use Rattle.finding_forms.specs.Rule.{rule_char}
use Rattle.finding_forms.proofs.rules.rule_name.Given as goal

abbrev pub invariant-loop-letter : goal.invariant-loop-letter
invariant-loop-letter l = string_bytes l.name ≡ flat_map rule_char l.yielded
