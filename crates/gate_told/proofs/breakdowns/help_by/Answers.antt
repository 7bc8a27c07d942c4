use Rattle.std.proofs.Common.{ap, sym, ◌∙◌, List, map, string_bytes}
use Rattle.std.specs.Borrow.{Bor}
use Rattle.std.proofs.Common.{ℕ}
use Rattle.gate_forms.specs.declared.reports.Advice.{Advice}
use Rattle.gate_told.specs.Borrowed.{borrowed}
use Rattle.gate_told.specs.Told.{told_advice}
use Rattle.gate_told.proofs.Moving.{moved_names}
use Rattle.gate_told.proofs.breakdowns.help_by.Goals as goal

pub returns-in_ok-names_of-in-Allow : goal.returns-in_ok-names_of-in-Allow
returns-in_ok-names_of-in-Allow c =
    ap (λ (xs : List (Bor (List ℕ))). Advice.Allow (borrowed xs))
    (moved_names c.in_ok-names_of-in-Allow.field-0.items _ (c.in_ok-names_of-in-Allow.ensures ∙ ap (map string_bytes) c.deref.ensures.value))
    ∙ ap told_advice (sym c.in-Allow.is)
