-- Why a question about an expression and licensees has no answer.
use Rattle.std.specs.Prelude.{◌≡◌, ◌⊎◌, ℕ, List, [], ◌∷◌}
use Rattle.line_engine.specs.Lines.{lines_of}
use Rattle.spdx_requirement.specs.Rows.{Rows}
use Rattle.spdx_requirement.specs.Items.{Requirement}
use Rattle.spdx_lexer.specs.declared.token.ParseMode.{ParseMode}
use Rattle.spdx_minimize.specs.Choice.{choice_of, too_many, unmet}
use Rattle.spdx.specs.Meaning.{IsReadFrom}
use Rattle.spdx.specs.Value.{Written}
use Rattle.spdx_calls.specs.declared.fault.CallFault.{CallFault}
use Rattle.spdx_calls.specs.declared.fault.CallFault.TheVariants.{Unmet, TooMany}
use Rattle.spdx_calls.specs.Licensees.{AreNamed}
use Rattle.spdx_calls.specs.Answers.{Reads}
use Rattle.spdx_calls.specs.Faults.{IsTextFault, IsLicenseesFault}

-- the text's fault; or that of a licensee, where the text is an expression
abbrev pub IsQuestionFault : Rows → ParseMode → List ℕ → List ℕ → CallFault → Type 0
IsQuestionFault c m text licensees fault =
    IsTextFault c m text fault ⊎ (Reads c m text × IsLicenseesFault c (lines_of licensees) fault)

-- no choice of these licensees is enough, or too many of them are useful
pub record HasNoChoice (c : Rows) (m : ParseMode) (text licensees : List ℕ)
    (fault : CallFault) : Type 0 where
  pub expression : Written
  pub read : IsReadFrom c m text expression
  pub accepted : List Requirement
  pub named : AreNamed c (lines_of licensees) accepted
  pub choice : ((fault ≡ Unmet) × (choice_of (expression.tree ∷ []) accepted ≡ unmet)) ⊎
      ((n : ℕ) × (fault ≡ TooMany n) × (choice_of (expression.tree ∷ []) accepted ≡ too_many n))

abbrev pub IsChoiceFault : Rows → ParseMode → List ℕ → List ℕ → CallFault → Type 0
IsChoiceFault c m text licensees fault =
    IsQuestionFault c m text licensees fault ⊎ HasNoChoice c m text licensees fault
