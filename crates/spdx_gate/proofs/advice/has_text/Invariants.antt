use Rattle.std.proofs.Common.{◌≡◌, drop}
use Rattle.std.specs.Prelude.{bytes_eq}
use Rattle.std.specs.List.{list_any}
use Rattle.spdx_policy.specs.Rules.{NamedRow}
use Rattle.spdx_gate.proofs.advice.has_text.Given as goal

abbrev pub invariant-loop-other : goal.invariant-loop-other
invariant-loop-other l = list_any (λ (n : NamedRow). bytes_eq n.text l.text) l.offers ≡ list_any (λ (n : NamedRow). bytes_eq n.text l.text) (drop l.other-index l.offers)
