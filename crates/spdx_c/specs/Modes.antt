-- What a call is given, why it is not made, and how a handle is opened and closed.
use Rattle.std.specs.Prelude.{◌≡◌, ◌⊎◌, ◌==◌, if◌then◌else◌, ℕ, List, Option, Some, None, Ok, Err}
use Rattle.spdx_requirement.specs.Rows.{Rows}
use Rattle.spdx_catalogue.specs.Reading.{catalogue_in}
use Rattle.spdx_catalogue.specs.declared.error.ReadFault.{ReadFault}
use Rattle.spdx_lexer.specs.declared.token.ParseMode.{ParseMode}
use Rattle.spdx_lexer.specs.Modes.{strict, lax}
use Rattle.spdx_lines.specs.declared.lines.LineMode.{LineMode}
use Rattle.spdx_lines.specs.declared.lines.LineMode.TheVariants.{Strict, Lax, Normal}
use Rattle.spdx_c.specs.declared.report.Report.{Report}
use Rattle.spdx_c.specs.Reports.{plain}

abbrev pub mode_of : ℕ → Option ParseMode
mode_of n = if n == 0 then Some strict else (if n == 1 then Some lax else None)

abbrev pub line_mode_of : ℕ → Option LineMode
line_mode_of n =
    if n == 0 then Some Strict
    else (if n == 1 then Some Lax else (if n == 2 then Some Normal else None))

-- the bytes are no list, or memory was refused
abbrev pub IsUnopened : List ℕ → Report → Type 0
IsUnopened list report =
    ((fault : ReadFault) × (catalogue_in list ≡ Err fault) × (report ≡ plain 10)) ⊎
    (report ≡ plain 11)

-- a closed handle gets the rows of the list, or stays closed; an open one is turned away and stays
-- as it was
abbrev pub IsOpening : List ℕ → Option Rows → Option Rows → Report → Type 0
IsOpening list None new report =
    ((rows : Rows) × (catalogue_in list ≡ Ok rows) × (new ≡ Some rows) × (report ≡ plain 0)) ⊎
    ((new ≡ None) × IsUnopened list report)
IsOpening list (Some rows) new report = (new ≡ Some rows) × (report ≡ plain 9)

-- only an open handle is closed
abbrev pub IsClosing : Option Rows → Report → Type 0
IsClosing None report = report ≡ plain 9
IsClosing (Some rows) report = report ≡ plain 0

-- the handle is closed, or the number means no mode
abbrev pub IsUnmade : {A : Type 0} → Option Rows → Option A → Report → Type 0
IsUnmade None mode report = report ≡ plain 9
IsUnmade (Some rows) None report = report ≡ plain 9
IsUnmade (Some rows) (Some mode) report = ⊥
