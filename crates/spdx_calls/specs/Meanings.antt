-- What an expression means, how what two ask compares, and why it isn't told.
use Rattle.std.specs.Prelude.{◌≡◌, ◌⊎◌, ℕ, List, Err, IsOk, IsUtf8}
use Rattle.spdx_requirement.specs.Rows.{Rows}
use Rattle.spdx_lexer.specs.declared.token.ParseMode.{ParseMode}
use Rattle.spdx_parser.specs.Tree.{Tree}
use Rattle.spdx_meaning.specs.declared.relation.Relation.{Relation}
use Rattle.spdx_meaning.specs.Made.{made_in}
use Rattle.spdx_meaning.specs.Relations.{IsRelation}
use Rattle.spdx_meaning.specs.MeaningText.{IsMeaningText, made_by_rank}
use Rattle.spdx.specs.Meaning.{IsReadFrom}
use Rattle.spdx.specs.Value.{Written}
use Rattle.spdx_calls.specs.declared.buffer.Put.{Put}
use Rattle.spdx_calls.specs.declared.fault.CallFault.{CallFault}
use Rattle.spdx_calls.specs.declared.fault.CallFault.TheVariants.{Refused, OtherNotText, OtherRefused, TooManySets, Memory}
use Rattle.spdx_calls.specs.Buffer.{IsPut}
use Rattle.spdx_calls.specs.Faults.{IsTextFault}
use Rattle.spdx_calls.specs.Answers.{Reads}

-- the meaning text of the expression is put
pub record PutsMeaning (c : Rows) (m : ParseMode) (text old new : List ℕ) (put : Put) : Type 0 where
  pub expression : Written
  pub read : IsReadFrom c m text expression
  pub few : IsOk (made_by_rank expression.tree)
  pub meaning : List ℕ
  pub is_meaning : IsMeaningText expression.tree meaning
  pub is_put : IsPut meaning old new put

-- the text's fault, or that too many sets are made of it, so many
abbrev pub IsMeaningFault : Rows → ParseMode → List ℕ → CallFault → Type 0
IsMeaningFault c m text (TooManySets n) =
    (e : Written) × IsReadFrom c m text e × (made_by_rank e.tree ≡ Err n)
IsMeaningFault c m text fault = IsTextFault c m text fault

-- how what the two texts ask compares
abbrev pub IsCompared : Rows → ParseMode → List ℕ → List ℕ → Relation → Type 0
IsCompared c m one other relation =
    (e f : Written) × IsReadFrom c m one e × IsReadFrom c m other f
    × IsRelation e.tree f.tree relation

-- why the second of two texts is no expression
abbrev pub IsOtherFault : Rows → ParseMode → List ℕ → CallFault → Type 0
IsOtherFault c m text OtherNotText = ¬ (IsUtf8 text)
IsOtherFault c m text (OtherRefused r) = IsTextFault c m text (Refused r)
IsOtherFault c m text Memory = Unit {0}
IsOtherFault c m text _ = ⊥

-- too many sets are made of a tree, so many
abbrev pub IsFaultOfTree : Tree → CallFault → Type 0
IsFaultOfTree t (TooManySets n) = made_in t ≡ Err n
IsFaultOfTree t Memory = Unit {0}
IsFaultOfTree t _ = ⊥

-- or of one of two
abbrev pub IsFaultOfTrees : Tree → Tree → CallFault → Type 0
IsFaultOfTrees t u fault = IsFaultOfTree t fault ⊎ IsFaultOfTree u fault

-- the fault of the first text; or that of the second, where the first is an expression; or that of
-- their trees, where both are
abbrev pub IsComparisonFault : Rows → ParseMode → List ℕ → List ℕ → CallFault → Type 0
IsComparisonFault c m one other fault =
    IsTextFault c m one fault ⊎ ((Reads c m one × IsOtherFault c m other fault) ⊎
    ((e f : Written) × IsReadFrom c m one e × IsReadFrom c m other f
    × IsFaultOfTrees e.tree f.tree fault))
