-- What is found wrong with a text.
use Rattle.std.proofs.Common.{◌≡◌, ℕ, List, ◌∙◌, ap}
use Rattle.spdx_requirement.specs.Rows.{Rows}
use Rattle.spdx_lexer.specs.Words.{Fault, Span}
use Rattle.spdx_lexer.specs.Faults.{fault_text}
use Rattle.finding_forms.specs.Finding.{Aid}
use Rattle.spdx_check.specs.Finding.{Wrong, aid_by, wrong_in}
use Rattle.spdx_list.specs.Files.{ReplacementRow}
use Rattle.spdx_check.specs.Found.{fix_of}

abbrev wrong : List ℕ → Span → List ℕ → Aid → Wrong
wrong text s reason aid = record { shown = text; place = s; reason = reason; aid = aid }

-- the reason and what helps as they are found
pub refused_so : (c : Rows) (replacements : List ReplacementRow) (text shown : List ℕ) (fault : Fault) (s : Span) (reason : List ℕ) (aid : Aid) →
    shown ≡ text → reason ≡ fault_text fault → aid ≡ aid_by c replacements text fault s (fix_of c text) → wrong shown s reason aid ≡ wrong_in c replacements text fault s (fix_of c text)
refused_so c replacements text shown fault s reason aid e f h =
    ap (λ xs. wrong xs s reason aid) e ∙ ap (λ xs. wrong text s xs aid) f ∙ ap (λ x. wrong text s (fault_text fault) x) h
