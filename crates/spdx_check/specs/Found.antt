-- The finding, found by reading: what the code's own contracts cite. The public ones speak of what
-- is found by what the definitions say of it.
use Rattle.std.specs.Prelude.{ℕ, Bool, List, Option, None, Some, Result, Ok, Err, if◌then◌else◌}
use Rattle.std.specs.Str.{is_utf8}
use Rattle.line_engine.specs.Rule.{Rule}
use Rattle.spdx_requirement.specs.Rows.{Rows}
use Rattle.spdx_lexer.specs.declared.token.ParseMode.{ParseMode}
use Rattle.spdx_lexer.specs.Modes.{strict, lax}
use Rattle.spdx_lexer.specs.Words.{Fault, Span}
use Rattle.spdx_canonical.specs.Canonical.{canonical_of}
use Rattle.spdx_evaluation.specs.Outcome.{Outcome, outcome}
use Rattle.spdx_check.specs.declared.check.Check.{Check}
use Rattle.spdx_list.specs.Files.{ReplacementRow}
use Rattle.spdx_check.specs.Finding.{Wrong, wrong_in, no_text}
use Rattle.spdx_check.specs.Checking.{replacements_in, rule_by}

abbrev pub when_accepted : Outcome → List ℕ → Option (List ℕ)
when_accepted (Ok t) fix = Some fix
when_accepted (Err fault) fix = None

-- by what strict and lax reading make of a text, and its canonical text
abbrev pub mended : Rows → Outcome → Outcome → Result (List ℕ) (Fault × Span) → Option (List ℕ)
mended c (Err fault) (Ok t) (Ok fix) = when_accepted (outcome c strict fix) fix
mended c (Err fault) (Ok t) (Err none) = None
mended c (Err fault) (Err other) canonical = None
mended c (Ok t) loosely canonical = None

-- the fix of a text
unfoldable pub fix_of : Rows → List ℕ → Option (List ℕ)
fix_of c text = mended c (outcome c strict text) (outcome c lax text) (canonical_of c text)

abbrev pub finding_by : Rows → List ReplacementRow → List ℕ → Outcome → Option Wrong
finding_by c replacements text (Ok t) = None
finding_by c replacements text (Err fault) =
    Some (wrong_in c replacements text fault.0 fault.1 (fix_of c text))

-- the finding of bytes
unfoldable pub finding_of : Rows → List ReplacementRow → ParseMode → List ℕ → Option Wrong
finding_of c replacements m bytes =
    if is_utf8 bytes then finding_by c replacements bytes (outcome c m bytes)
    else Some (no_text bytes)

-- the rule of a check
abbrev pub rule_of : Check → Bool → List ℕ → Rule
rule_of check is_first file =
    rule_by (finding_of check.catalogue.now (replacements_in check) check.mode) check.format
    is_first file
