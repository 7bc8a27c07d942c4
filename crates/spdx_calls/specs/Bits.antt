-- Evaluation by a bit for each requirement.
use Rattle.std.specs.Prelude.{◌≡◌, ◌≢◌, ◌==◌, ℕ, ◌/◌, ◌%◌, Bool, List, length, map, slice_index_or}
use Rattle.std.specs.Int.{bit_at}
use Rattle.std.specs.List.{range_with_len}
use Rattle.spdx_requirement.specs.Rows.{Rows}
use Rattle.spdx_lexer.specs.declared.token.ParseMode.{ParseMode}
use Rattle.spdx_parser.specs.Tree.{leaves}
use Rattle.spdx_evaluation.specs.Truth.{truth_of}
use Rattle.spdx.specs.Meaning.{IsReadFrom}
use Rattle.spdx.specs.Value.{Written}
use Rattle.spdx_calls.specs.declared.fault.CallFault.{CallFault}
use Rattle.spdx_calls.specs.declared.fault.CallFault.TheVariants.{BitCount}
use Rattle.spdx_calls.specs.Faults.{IsTextFault}

-- bit i of some bytes, of each the lowest first; behind them none is set
abbrev pub is_set : List ℕ → ℕ → Bool
is_set bytes i = bit_at (slice_index_or bytes (i / 8) 0) (i % 8) == 1

abbrev pub first_bits : List ℕ → ℕ → List Bool
first_bits bytes count = map (is_set bytes) (range_with_len 0 count)

-- the truth of the tree where the i-th requirement is met exactly if bit i is set; there are as
-- many bits as requirements
pub record IsTruthByBits (c : Rows) (m : ParseMode) (text bits : List ℕ) (count : ℕ)
    (truth : Bool) : Type 0 where
  pub expression : Written
  pub read : IsReadFrom c m text expression
  pub as_many : count ≡ length (leaves expression.tree)
  pub is : truth ≡ truth_of expression.tree (first_bits bits count)

-- the text's fault, or that it has another number of requirements, which is told
abbrev pub IsBitsFault : Rows → ParseMode → List ℕ → ℕ → CallFault → Type 0
IsBitsFault c m text count (BitCount n) =
    (e : Written) × IsReadFrom c m text e × (n ≡ length (leaves e.tree)) × (count ≢ n)
IsBitsFault c m text count fault = IsTextFault c m text fault
