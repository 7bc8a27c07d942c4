-- What is written of the expressions of a file.
use Rattle.std.specs.Prelude.{◌≡◌, ℕ, ◌+◌, ◌-◌, ◌==◌, Bool, true, false, ◌&&◌, not, List, [], ◌∷◌, ◌++◌, length, map, take, slice_index, Option, None, Some, is_some, Result, IfErr, IfOk, count_by, if◌then◌else◌}
use Rattle.std.specs.Char.{is_ascii_whitespace}
use Rattle.std.specs.List.{filter_map, list_all, list_any}
use Rattle.std.specs.Result.{result_map_both}
use Rattle.line_engine.specs.declared.lines.RunFault.{RunFault}
use Rattle.line_engine.specs.declared.lines.RunFault.TheVariants as run
use Rattle.line_engine.specs.declared.lines.Summary.{Summary}
use Rattle.line_engine.specs.Device.{Devices}
use Rattle.line_engine.specs.Output.{capped, summary_of}
use Rattle.line_engine.specs.Progress.{HasRunBehind, HasWrittenBehind}
use Rattle.line_engine.specs.Rule.{Rule}
use Rattle.line_engine.specs.Runs.{Runs}
use Rattle.spdx_list.specs.Files.{ReplacementRow}
use Rattle.spdx_list.specs.Shown.{shown_replacement}
use Rattle.finding_forms.specs.declared.findings.Place.{Place}
use Rattle.finding_forms.specs.declared.findings.Sight.{Sight}
use Rattle.finding_forms.specs.declared.forms.Format.{Format}
use Rattle.finding_forms.specs.Finding.{Seen, Told, seen_alone, seen_of}
use Rattle.finding_forms.specs.Forms.{finding_text}
use Rattle.spdx_check.specs.declared.check.Check.{Check}
use Rattle.spdx_check.specs.declared.lines.Checked.{Checked}
use Rattle.spdx_check.specs.declared.lines.LinesFault.{LinesFault}
use Rattle.spdx_check.specs.declared.lines.LinesFault.TheVariants as fault
use Rattle.spdx_check.specs.Finding.{Wrong, IsTheFinding}

-- what is said to be written in place of names
abbrev pub replacements_in : Check → List ReplacementRow
replacements_in check = map shown_replacement check.replacements.now

-- ---- one expression

-- where an expression stands: the file, the line, and the column where it begins
pub record Spot : Type 0 where
  pub file : List ℕ
  pub line : ℕ
  pub column : ℕ

abbrev pub spot_of : Place → Spot
spot_of place = record { file = place.file.now; line = place.line; column = place.column }

-- what is wrong with the expression there, whose fault is seen so
abbrev pub told_by : Spot → Wrong → Seen → Told
told_by spot wrong seen = record {
  file = spot.file;
  line = spot.line;
  column = spot.column;
  expression = wrong.shown;
  start = wrong.place.from;
  end = wrong.place.to;
  reason = wrong.reason;
  aid = wrong.aid;
  seen = seen;
}

-- the fault of an expression that stands there as it is
abbrev pub seen_there : Spot → Wrong → Seen
seen_there spot wrong = seen_alone spot.line spot.column wrong.shown wrong.place.from wrong.place.to

-- what is wrong with the expression there, which stands there as it is
abbrev pub told_at : Spot → Wrong → Told
told_at spot wrong = told_by spot wrong (seen_there spot wrong)

-- where the fault is seen, if it is said
abbrev pub seen_by : Spot → Wrong → Option Sight → Seen
seen_by spot wrong None = seen_there spot wrong
seen_by spot wrong (Some sight) = seen_of sight

-- nothing is written where nothing is wrong
abbrev pub found_text : Format → Bool → Spot → Option Wrong → List ℕ
found_text format is_first spot None = []
found_text format is_first spot (Some wrong) = finding_text format is_first (told_at spot wrong)

-- ---- line by line

-- the expression of a line, which is without a carriage return at its end
abbrev pub expression_of : List ℕ → List ℕ
expression_of line =
    let last = length line - 1 in if slice_index line last == 13 then take last line else line

-- it is nothing but ASCII white space
abbrev pub is_blank : List ℕ → Bool
is_blank expression = list_all is_ascii_whitespace expression

-- the finding of a line's expression, if it has one; a blank line has none
abbrev pub finding_in_line : (List ℕ → Option Wrong) → List ℕ → Option Wrong
finding_in_line finding line =
    if is_blank (expression_of line) then None else finding (expression_of line)

-- the expression of the line behind these lines, the first being line 1; the numbers end with those
-- of 64 bits
abbrev pub spot_behind : List ℕ → List (List ℕ) → Spot
spot_behind file before = record { file = file; line = capped (length before + 1); column = 1 }

-- whether one of these lines has a finding
abbrev pub have_finding : (List ℕ → Option Wrong) → List (List ℕ) → Bool
have_finding finding lines = list_any (λ line. is_some (finding_in_line finding line)) lines

-- how many of them have one
abbrev pub refused_count : (List ℕ → Option Wrong) → List (List ℕ) → ℕ
refused_count finding lines = count_by (λ line. is_some (finding_in_line finding line)) lines

-- each line gives its finding, if it has one; nothing stands behind them all
abbrev pub rule_by : (List ℕ → Option Wrong) → Format → Bool → List ℕ → Rule
rule_by finding format is_first file = record {
  text =
      λ before line. found_text format (is_first && not (have_finding finding before))
      (spot_behind file before) (finding_in_line finding line);
  refuses = λ line. is_some (finding_in_line finding line);
  closing = λ lines. [];
}

-- ---- lines of white space

-- each byte is a blank, a tab, a line feed, a form feed or a carriage return
abbrev pub is_white : List ℕ → Bool
is_white line = list_all is_ascii_whitespace line

-- how many lines are blank
abbrev pub blank_count : List (List ℕ) → ℕ
blank_count lines = count_by (λ line. is_blank (expression_of line)) lines

-- what is found in lines, one behind another
abbrev pub found_in : (List ℕ → Option Wrong) → List (List ℕ) → List Wrong
found_in finding lines = filter_map (finding_in_line finding) lines

-- A line of white space adds nothing, wherever it stands: nothing is written of it, it isn't
-- refused, and in the other lines the same is found. Any other line has the finding of its
-- expression.
pub record LeavesOutWhite (finding : List ℕ → Option Wrong) (rule : Rule) : Type 0 where
  pub text : (before : List (List ℕ)) (line : List ℕ) → is_white line ≡ true →
      rule.text before line ≡ []
  pub refuses : (line : List ℕ) → is_white line ≡ true → rule.refuses line ≡ false
  pub found : (front back : List (List ℕ)) (line : List ℕ) → is_white line ≡ true →
      found_in finding (front ++ line ∷ back) ≡ found_in finding (front ++ back)
  pub others : (line : List ℕ) → is_white line ≡ false →
      finding_in_line finding line ≡ finding (expression_of line)

-- ---- a run

abbrev pub run_fault : LinesFault → RunFault
run_fault (fault.Read c) = run.Read
run_fault fault.Write = run.Write
run_fault fault.Memory = run.Memory

-- the lines and the refused ones
abbrev pub summary_in : Result Checked LinesFault → Result Summary RunFault
summary_in result = result_map_both (λ (c : Checked). c.summary) run_fault result

-- what is counted in lines: they, the refused ones, and those of white space
pub record AreCounted (rule : Rule) (lines : List (List ℕ)) (c : Checked) : Type 0 where
  pub summary : c.summary ≡ summary_of rule lines
  pub blanks : c.blanks ≡ capped (count_by is_white lines)

-- where the input has failed those are counted that were read whole
abbrev pub CountsBroken : Rule → Devices → LinesFault → Type 0
CountsBroken rule d (fault.Read c) = HasWrittenBehind rule (λ lines. AreCounted rule lines c) d
CountsBroken rule d f = Unit {0}

-- the input is said to have failed only where this is so
abbrev pub FailsIfBroken : Type 0 → LinesFault → Type 0
FailsIfBroken MayFail (fault.Read c) = MayFail
FailsIfBroken MayFail f = Unit {0}

-- the run writes the finding of each line that has one, and counts the lines; one of white space
-- has none, and those are counted apart
pub record ChecksLines (check : Check) (is_first : Bool) (file : List ℕ) (d : Devices)
    (result : Result Checked LinesFault) : Type 0 where
  pub finding : List ℕ → Option Wrong
  pub findings : (bytes : List ℕ) →
      IsTheFinding check.catalogue.now (replacements_in check) check.mode bytes (finding bytes)
  pub runs : Runs (rule_by finding check.format is_first file) d (summary_in result)
  pub blank : LeavesOutWhite finding (rule_by finding check.format is_first file)
  pub counts : IfOk result
      (λ (c : Checked). HasRunBehind (rule_by finding check.format is_first file)
      (λ lines. c.blanks ≡ capped (count_by is_white lines)) d c.summary)
  pub broken : IfErr result (CountsBroken (rule_by finding check.format is_first file) d)
