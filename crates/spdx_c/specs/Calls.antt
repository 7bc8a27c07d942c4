-- What the exports answer.
use Rattle.std.specs.Prelude.{◌≡◌, ◌⊎◌, ℕ, List, Option, Some, Result, MatchResult}
use Rattle.spdx_requirement.specs.Rows.{Rows}
use Rattle.spdx_lexer.specs.Faults.{description_text}
use Rattle.spdx_lexer.specs.Words.{Fault}
use Rattle.spdx_calls.specs.declared.buffer.Put.{Put}
use Rattle.spdx_calls.specs.declared.fault.CallFault.{CallFault}
use Rattle.spdx_calls.specs.Buffer.{IsPut}
use Rattle.spdx_calls.specs.Reasons.{IsReasonNumber, number_of}
use Rattle.spdx_calls.specs.Faults.{IsTextFault, IsCanonicalFault, IsFixFault, IsLinesFault, IsNameFault}
use Rattle.spdx_calls.specs.Questions.{IsQuestionFault, IsChoiceFault}
use Rattle.spdx_calls.specs.Answers.{Reads, PutsCanonical, PutsFix, PutsNormal, PutsChoice, PutsLines, PutsRequirements, IsTruth, IsListing}
use Rattle.spdx_calls.specs.Bits.{IsTruthByBits, IsBitsFault}
use Rattle.spdx_calls.specs.Meanings.{PutsMeaning, IsMeaningFault, IsCompared, IsComparisonFault}
use Rattle.spdx_c.specs.declared.report.Report.{Report}
use Rattle.spdx_c.specs.Reports.{plain, with_length, of_check, of_put, of_fix, of_truth, of_relation, of_listing, of_answered}
use Rattle.spdx_c.specs.Modes.{mode_of, line_mode_of, IsUnmade}

-- the call on this list answered in these numbers, P of a value and E of a fault
pub record IsMade {A M : Type 0} (list : Option Rows) (mode : Option M)
    (told : Result A CallFault → Report) (P : Rows → M → A → Type 0)
    (E : Rows → M → CallFault → Type 0) (report : Report) : Type 0 where
  pub rows : Rows
  pub by : M
  pub answer : Result A CallFault
  pub opened : list ≡ Some rows
  pub named : mode ≡ Some by
  pub says : MatchResult answer (P rows by) (E rows by)
  pub tells : report ≡ told answer

-- it was, or there is no such list or mode
abbrev pub IsCall : {A M : Type 0} → Option Rows → Option M → (Result A CallFault → Report) →
    (Rows → M → A → Type 0) → (Rows → M → CallFault → Type 0) → Report → Type 0
IsCall list mode told P E report = IsMade list mode told P E report ⊎ IsUnmade list mode report

-- a fault has this number, and what it says is put; or no fault has it
abbrev pub IsReasonCall : ℕ → List ℕ → List ℕ → Report → Type 0
IsReasonCall number old new report =
    (IsReasonNumber number ×
    ((text : List ℕ) × ((put : Put) ×
    (((fault : Fault) → number_of fault ≡ number → text ≡ description_text fault) ×
    (IsPut text old new put × (report ≡ with_length put))))))
    ⊎ (((fault : Fault) → number_of fault ≡ number → ⊥) × (report ≡ plain 9))

abbrev pub IsCheck : Option Rows → ℕ → List ℕ → Report → Type 0
IsCheck list mode text report =
    IsCall list (mode_of mode) of_check (λ c m _. Reads c m text) (λ c m. IsTextFault c m text)
    report

abbrev pub IsListedCall : Option Rows → List ℕ → Report → Type 0
IsListedCall list name report =
    IsCall list (mode_of 0) of_listing (λ c m. IsListing c name)
    (λ c m. IsNameFault name) report

abbrev pub IsCanonicalCall : Option Rows → ℕ → List ℕ → List ℕ → List ℕ → Report → Type 0
IsCanonicalCall list mode text old new report =
    IsCall list (mode_of mode) of_put (λ c m. PutsCanonical c m text old new)
    (λ c m. IsCanonicalFault c m text) report

abbrev pub IsFixCall : Option Rows → List ℕ → List ℕ → List ℕ → Report → Type 0
IsFixCall list text old new report =
    IsCall list (mode_of 0) of_fix (λ c m. PutsFix c text old new) (λ c m. IsFixFault text) report

abbrev pub IsNormalCall : Option Rows → ℕ → List ℕ → List ℕ → List ℕ → Report → Type 0
IsNormalCall list mode text old new report =
    IsCall list (mode_of mode) of_put (λ c m. PutsNormal c m text old new)
    (λ c m. IsTextFault c m text) report

abbrev pub IsSimplifyCall : Option Rows → ℕ → List ℕ → List ℕ → List ℕ → Report → Type 0
IsSimplifyCall list mode text old new report =
    IsCall list (mode_of mode) of_put (λ c m. PutsMeaning c m text old new)
    (λ c m. IsMeaningFault c m text) report

abbrev pub IsCompareCall : Option Rows → ℕ → List ℕ → List ℕ → Report → Type 0
IsCompareCall list mode one other report =
    IsCall list (mode_of mode) of_relation (λ c m. IsCompared c m one other)
    (λ c m. IsComparisonFault c m one other) report

abbrev pub IsEvaluation : Option Rows → ℕ → List ℕ → List ℕ → Report → Type 0
IsEvaluation list mode text licensees report =
    IsCall list (mode_of mode) of_truth (λ c m. IsTruth c m text licensees)
    (λ c m. IsQuestionFault c m text licensees) report

abbrev pub IsBitsCall : Option Rows → ℕ → List ℕ → List ℕ → ℕ → Report → Type 0
IsBitsCall list mode text bits count report =
    IsCall list (mode_of mode) of_truth (λ c m. IsTruthByBits c m text bits count)
    (λ c m. IsBitsFault c m text count) report

abbrev pub IsRequirementsCall : Option Rows → ℕ → List ℕ → List ℕ → List ℕ → Report → Type 0
IsRequirementsCall list mode text old new report =
    IsCall list (mode_of mode) of_put (λ c m. PutsRequirements c m text old new)
    (λ c m. IsTextFault c m text) report

abbrev pub IsChoiceCall : Option Rows → ℕ → List ℕ → List ℕ → List ℕ → List ℕ → Report → Type 0
IsChoiceCall list mode text licensees old new report =
    IsCall list (mode_of mode) of_put (λ c m. PutsChoice c m text licensees old new)
    (λ c m. IsChoiceFault c m text licensees) report

abbrev pub IsLinesCall : Option Rows → ℕ → List ℕ → List ℕ → List ℕ → List ℕ → Report → Type 0
IsLinesCall list mode licensees input old new report =
    IsCall list (line_mode_of mode) of_answered (λ c m. PutsLines c m licensees input old new)
    (λ c m. IsLinesFault c licensees) report
