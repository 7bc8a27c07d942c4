-- A run in SARIF writes one log.
use Rattle.std.proofs.Common.{◌≡◌, ◌∙◌, refl, ap, inl, inr, ℕ, Bool, true, false, List, [], ◌∷◌, ◌++◌, append-nil, count_by, map, Option, None, Some}
use Rattle.line_engine.specs.Lines.{cut, lines_of}
use Rattle.line_engine.specs.Output.{capped, summary_of, text_of}
use Rattle.manifests.specs.declared.form.Form.{Form}
use Rattle.shelves.specs.Shelf.{Shelved}
use Rattle.source_trees.specs.declared.reading.Reading.{Reading}
use Rattle.source_trees.specs.declared.reading.Reading.TheVariants as reading
use Rattle.finding_forms.specs.declared.forms.Format.{Format}
use Rattle.finding_forms.specs.declared.forms.Format.TheVariants.{Sarif}
use Rattle.finding_forms.specs.Forms.{beginning, ending}
use Rattle.finding_forms.specs.Sarif.{result_of}
use Rattle.finding_forms.specs.SarifLog.{log_text}
use Rattle.spdx_check.specs.declared.check.Check.{Check}
use Rattle.spdx_check.specs.Checking.{is_white}
use Rattle.check_sources.specs.Decoding.{source_bytes, without_mark}
use Rattle.check_sources.specs.declared.sums.Sums.{Sums}
use Rattle.check_files.specs.declared.trouble.CheckTrouble.{CheckTrouble}
use Rattle.check_files.specs.Parts.{source_at}
use Rattle.check_files.specs.Tally.{Tally, is_clean, tally_of, with_lines}
use Rattle.check_program.specs.declared.run.Request.{Request}
use Rattle.shelves.specs.AtPath.{told_path}
use Rattle.check_program.specs.Lines.{IsLinesStep, rule_of}
use Rattle.check_program.specs.Logs.{IsOneLog, WritesOneLog}
use Rattle.check_program.specs.Paths.{ArePathSteps, IsPartChecked, IsPartStep, IsPathStep, IsReadStep, Ways, below, more, none}
use Rattle.check_program.specs.Runs.{Inside, IsRunBy, last_lines, ways_in}
use Rattle.check_program.proofs.Adding.{Adds, adds_none, told_text}
use Rattle.check_program.proofs.Results.{is_log, reads_back}
use Rattle.check_program.proofs.StepLogs.{AddsTo, both_added, lines_counted, manifest_step, nothing_added, passed_step, same_added, tags_step, tree_step}

-- ---- a path

module _ (s : Shelved) (check : Check) where
  lines_step : (path : List ℕ) (old : Tally) (text : List ℕ) (told : List CheckTrouble) (new : Tally) → IsLinesStep s check path old text told new → AddsTo check old text new
  lines_step path old text told new (inl (inl h)) =
      let c = h.2 in
      let lines = lines_of h.0 in
      let rule = rule_of check c.finding old (told_path path) in
      let blanks = capped (count_by is_white lines) in
      same_added check old (text_of rule lines) text new (with_lines (summary_of rule lines) blanks old) (lines_counted check c.finding (told_path path) lines blanks old)
      (c.text_is ∙ append-nil (text_of rule lines)) (ap is_clean c.new_is)
  lines_step path old text told new (inl (inr h)) =
      let c = h.4 in
      let lines = (cut h.0).whole in
      let rule = rule_of check c.finding old (told_path path) in
      let blanks = capped (count_by is_white lines) in
      same_added check old (text_of rule lines) text new (with_lines (summary_of rule lines) blanks old) (lines_counted check c.finding (told_path path) lines blanks old) c.text_is
      (ap is_clean c.new_is)
  lines_step path old text told new (inr h) = nothing_added check old text new h.text_is (ap is_clean h.new_is)

  part_checked : (form : Option Form) (name bytes : List ℕ) (old : Tally) (text : List ℕ) (new : Tally) → IsPartChecked check form name bytes old text new → AddsTo check old text new
  part_checked (Some form) name bytes old text new h = manifest_step check form (source_at name (without_mark bytes)) old h.0 text h.1 new h.2
  part_checked None name bytes old text new h = tags_step check (source_at name (source_bytes bytes)) old text h.0 new h.1

  part_step : (form : Option Form) (path : List ℕ) (old : Tally) (text : List ℕ) (told : List CheckTrouble) (new : Tally) → IsPartStep s check form path old text told new → AddsTo check old text new
  part_step form path old text told new (inl h) = part_checked form (told_path path) h.0 old text new h.2
  part_step form path old text told new (inr h) = nothing_added check old text new h.text_is (ap is_clean h.new_is)

  module _ (w : Ways) where
    read_step : (r : Reading) (path : List ℕ) (old : Tally) (text : List ℕ) (told : List CheckTrouble) (new : Tally) → IsReadStep s check w r path old text told new → AddsTo check old text new
    read_step reading.Lines path old text told new h = lines_step path old text told new h
    read_step reading.Tags path old text told new h = part_step None path old text told new h
    read_step (reading.Manifest form) path old text told new h = part_step (Some form) path old text told new h
    read_step (reading.Tree taken) path old text told new h = tree_step check s (below w taken) path old text told new h

    path_step : (path : List ℕ) (old : Tally) (text : List ℕ) (told : List CheckTrouble) (new : Tally) → IsPathStep s check w path old text told new → AddsTo check old text new
    path_step path old text told new (inl h) = read_step h.0 path old text told new h.2
    path_step path old text told new (inr h) = passed_step check (h.why ∷ []) old text told new h.passed

    all_paths : {paths : List (List ℕ)} {old : Tally} {text : List ℕ} {told : List CheckTrouble} {new : Tally} → ArePathSteps s check w paths old text told new → AddsTo check old text new
    all_paths (none {old = old}) = adds_none check.format (is_clean old)
    all_paths (more {old = old} {between = between} {new = new} {text = text} path own own_told before step) =
        both_added check old between new text own (all_paths before) (path_step path between own own_told new step)

-- ---- a run

-- no last lines stand behind a log
no_lines : (is_asked : Bool) (sums : Sums) → last_lines is_asked Sarif sums ≡ []
no_lines true sums = refl
no_lines false sums = refl

module _ (s : Shelved) (check : Check) (version : List ℕ) (a : Request) where
  log_by : (format : Format) (found text : List ℕ) (clean : Bool) (sums : Sums) → Adds format true found clean → format ≡ Sarif
      → text ≡ beginning format version ++ (found ++ (ending format ++ last_lines a.summary format sums)) → IsOneLog version text
  log_by format found text clean sums h is e = record {
    findings = h.findings;
    log = log_text version (map result_of h.findings);
    text_is =
        e
        ∙ ap (λ (x : List ℕ). beginning format version ++ (x ++ (ending format ++ last_lines a.summary format sums))) h.text_is
        ∙ ap (λ (f : Format). beginning f version ++ (told_text f true h.findings ++ (ending f ++ last_lines a.summary f sums))) is
        ∙ ap (λ (x : List ℕ). beginning Sarif version ++ (told_text Sarif true h.findings ++ (ending Sarif ++ x))) (no_lines a.summary sums)
        ∙ is_log version h.findings;
    reads = reads_back version h.findings h.numbered;
  }

  log_of_run : (text : List ℕ) (told : List CheckTrouble) (status : ℕ) → IsRunBy s check version a text told status → check.format ≡ Sarif → IsOneLog version text
  log_of_run text told status h is =
      log_by check.format h.found text (is_clean (tally_of h.sums)) h.sums (all_paths s check (ways_in a) h.steps) is h.text_is

-- whatever files there are, and whatever is found in them
pub writes_one_log : (s : Shelved) (inside : Inside) (a : Request) → WritesOneLog s inside a
writes_one_log s inside a asked text told status h = log_of_run s h.0 inside.version a text told status h.2 (h.1.format_is ∙ asked)
