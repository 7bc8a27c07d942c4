-- How texts are read.
use Rattle.std.specs.Prelude.{ℕ, Bool, List, Result, Ok, Err, if◌then◌else◌}
use Rattle.spdx_requirement.specs.Rows.{Rows}
use Rattle.spdx_lexer.specs.Modes.{strict, lax}
use Rattle.spdx_lexer.specs.declared.token.ParseMode.{ParseMode}
use Rattle.spdx_canonical.specs.Canonical.{canonical_of}

abbrev pub mode_by : Bool → ParseMode
mode_by is_lax = if is_lax then lax else strict

abbrev pub or_itself : {E : Type 0} → List ℕ → Result (List ℕ) E → List ℕ
or_itself text (Ok canonical) = canonical
or_itself text (Err fault) = text

-- laxly a text is read as its canonical one, so that an old spelling means what a new one does; one
-- that has none stays as it is
abbrev pub read_as : Rows → Bool → List ℕ → List ℕ
read_as c is_lax text = if is_lax then or_itself text (canonical_of c text) else text
