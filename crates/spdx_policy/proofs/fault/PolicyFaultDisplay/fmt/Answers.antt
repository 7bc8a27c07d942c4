use Rattle.std.proofs.Common.{List, ℕ, ◌++◌, ◌∙◌, ap, sym, string_bytes}
use Rattle.std.specs.Prelude.{codes}
use Rattle.std.proofs.Output.{has_written_of_eq}
use Rattle.spdx_policy.specs.Escaped.{quoted}
use Rattle.spdx_policy.specs.Told.{path_text, policy_fault_text}
use Rattle.spdx_policy.proofs.fault.PolicyFaultDisplay.fmt.Goals as goal

pub returns-in-NotARange-clause-writes : goal.returns-in-NotARange-clause-writes
returns-in-NotARange-clause-writes g c plain ok =
    let told : List ℕ → List ℕ = λ text. path_text c.in-NotARange.section ++ (codes "versions: " ++ (quoted text ++ (codes " is no range: " ++ string_bytes c.in-NotARange.words))) in
    has_written_of_eq _ _ _ _ _ (ap told c.as_str-in-NotARange.ensures.value ∙ ap policy_fault_text (sym c.in-NotARange.is)) (c.write-in-NotARange.ensures.writes plain ok)
