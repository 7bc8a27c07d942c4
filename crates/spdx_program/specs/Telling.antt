-- What stands on standard error of what is told.
use Rattle.std.specs.Prelude.{◌≡◌, ◌⊎◌, ℕ, Bool, List, [], ◌∷◌, ◌++◌, Option, None, Some, Result, Ok, Err, String, codes, string_bytes}
use Rattle.std.specs.declared.alloc.Global.{Global}
use Rattle.check_files.specs.Told.{Account, Puts, before, texts}
use Rattle.check_files.specs.declared.trouble.CheckTrouble.{CheckTrouble}
use Rattle.line_engine.specs.Device.{Told}
use Rattle.spdx_program.specs.declared.ended.Ended.{Ended}
use Rattle.spdx_troubles.specs.Causes.{check_trouble}
use Rattle.spdx_troubles.specs.Lines.{IsLineOf, line_with}
use Rattle.spdx_troubles.specs.Status.{status_of}
use Rattle.spdx_troubles.specs.declared.trouble.Trouble.{Trouble}

-- the line of what is told of a file that is checked
abbrev pub check_line : List ℕ → CheckTrouble → List ℕ
check_line error t = line_with error (check_trouble t)

-- the output has the lines of what is told, and between them how far a walk is, where that is shown
abbrev pub heard_in : Bool → Told → Account Trouble
heard_in is_shown out = texts is_shown line_with out

abbrev pub noted_in : Bool → Told → Account CheckTrouble
noted_in is_shown out = texts is_shown check_line out

-- ---- the last line

-- the line of totals, if there is one
abbrev pub totals_text : Bool → Option (String Global) → List ℕ
totals_text is_shown None = []
totals_text is_shown (Some line) = before is_shown ++ string_bytes line

abbrev pub PutsTotals : Bool → Told → Told → Option (String Global) → Type 0
PutsTotals is_shown out out' totals = Puts out out' (λ text. text ≡ totals_text is_shown totals)

-- the line of a trouble
abbrev pub IsLineBehind : Bool → Trouble → List ℕ → Type 0
IsLineBehind is_shown t text =
    (line : List ℕ) × IsLineOf t line × (text ≡ before is_shown ++ line)

abbrev pub no_memory : List ℕ
no_memory = codes "spdx: out of memory" ++ 10 ∷ []

-- where there is no memory for its line, that is told
abbrev pub IsStopTold : Bool → Told → Told → Trouble → ℕ → Type 0
IsStopTold is_shown out out' t status =
    (Puts out out' (IsLineBehind is_shown t) × (status ≡ status_of t))
    ⊎ (Puts out out' (λ text. text ≡ before is_shown ++ no_memory) × (status ≡ 3))

-- the totals, or the trouble by which the command stopped
abbrev pub IsEndTold : Bool → Result Ended Trouble → Told → Told → ℕ → Type 0
IsEndTold is_shown (Ok e) out out' status =
    PutsTotals is_shown out out' e.totals × (status ≡ e.status)
IsEndTold is_shown (Err t) out out' status = IsStopTold is_shown out out' t status
