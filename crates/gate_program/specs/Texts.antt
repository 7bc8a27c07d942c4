-- What is written of a run.
use Rattle.std.specs.Prelude.{◌≡◌, ℕ, Bool, true, false, ◌&&◌, ◌||◌, not, List, [], ◌++◌, Option, None, Some, map, if◌then◌else◌}
use Rattle.std.specs.List.{list_all}
use Rattle.std.specs.Option.{option_copied}
use Rattle.std.specs.Borrow.{Bor}
use Rattle.spdx_requirement.specs.Rows.{Rows}
use Rattle.spdx_policy.specs.Rules.{Rules}
use Rattle.spdx_gate.specs.declared.report.Report.{Report}
use Rattle.gate_forms.specs.declared.reports.Report as forms
use Rattle.gate_forms.specs.Known.{is_known, known_text}
use Rattle.gate_forms.specs.Report.{is_refused}
use Rattle.gate_forms.specs.Summary.{summary_text}
use Rattle.gate_forms.specs.Totals.{unused_text}
use Rattle.gate_told.specs.Borrowed.{borrowed}
use Rattle.gate_told.specs.declared.forms.Format.{Format}
use Rattle.gate_told.specs.declared.forms.Format.TheVariants.{Human, Short, Json, Github, Sarif, Html}
use Rattle.gate_told.specs.Needs.{summary_of}
use Rattle.gate_told.specs.Totals.{totals_of}
use Rattle.gate_told.specs.Unused.{unused_of}
use Rattle.gate_told.specs.Verdicts.{are_gathered, explanations_text, verdicts_text}
use Rattle.gate_program.specs.declared.gated.Gated.{Gated}
use Rattle.gate_program.specs.declared.told.GateText.{GateText}
use Rattle.gate_program.specs.declared.told.Look.{Look}
use Rattle.gate_program.specs.Gated.{known_in, older_in}
use Rattle.gate_program.specs.Told.{IsToldOf}

-- the forms that people read in lines
abbrev pub is_for_people : Format → Bool
is_for_people (Human style) = true
is_for_people Short = true
is_for_people Json = false
is_for_people Github = false
is_for_people (Sarif version) = false
is_for_people Html = false

abbrev pub is_human : Format → Bool
is_human (Human style) = true
is_human Short = false
is_human Json = false
is_human Github = false
is_human (Sarif version) = false
is_human Html = false

-- the refusals that are known from the older file
abbrev pub known_part : Format → List ℕ → List forms.Report → List ℕ
known_part format older told = if is_for_people format then known_text older told else []

-- what would make the packages pass, where they are few enough
abbrev pub needs_part : Format → Report → List ℕ
needs_part format report =
    if is_human format && are_gathered (totals_of report) then summary_text (summary_of report)
    else []

abbrev pub behind_by : Format → Option (List ℕ) → Report → List forms.Report → List ℕ
behind_by format None report told = needs_part format report
behind_by format (Some older) report told = known_part format older told

abbrev pub behind_verdicts : Format → Gated → List forms.Report → List ℕ
behind_verdicts format gated told = behind_by format (older_in gated) gated.report told

-- what of the policy is of no use, where that is asked for
abbrev pub unused_part : Look → Rules → List ℕ → Report → List ℕ
unused_part look p path report =
    if look.tells_unused && is_for_people look.format
    then unused_text path (map borrowed (unused_of p report)) else []

abbrev pub verdicts_part : Look → Rules → List ℕ → Gated → List forms.Report → List ℕ
verdicts_part look p path gated told =
    verdicts_text look.format path (totals_of gated.report) told ++
    (behind_verdicts look.format gated told ++ unused_part look p path gated.report)

-- the packages of a name are explained, or all verdicts told
abbrev pub told_by : Option (List ℕ) → Look → Rules → List ℕ → Gated → List forms.Report →
    List ℕ
told_by None look p path gated told = verdicts_part look p path gated told
told_by (Some name) look p path gated told = explanations_text look.style name told

abbrev pub told_text : Look → Rules → List ℕ → Gated → List forms.Report → List ℕ
told_text look p path gated told = told_by (option_copied look.explain) look p path gated told

-- a package that isn't refused, or whose refusal is known
abbrev pub is_passed : forms.Report → Bool
is_passed r = not (is_refused r.verdict) || is_known r

abbrev pub are_passed : List forms.Report → Bool
are_passed told = list_all is_passed told

-- each package is told by what the report says of it; the text is of what is told, and so is
-- whether they pass
pub record IsToldText (c : Rows) (p : Rules) (path : List ℕ) (look : Look) (gated : Gated)
    (text : GateText) : Type 0 where
  pub told : List forms.Report
  pub known : Option (Bor (List Bool))
  pub known_are : option_copied known ≡ known_in gated
  pub told_are : IsToldOf c p path gated.files.items known gated.report told
  pub bytes_are : text.bytes.items ≡ told_text look p path gated told
  pub passed : text.is_passed ≡ are_passed told
