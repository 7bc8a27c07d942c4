-- What is written of lines, of expressions in a file and of whole files adds findings.
use Rattle.std.proofs.Common.{◌≡◌, ◌∙◌, refl, sym, ap, subst, ℕ, ◌-◌, ◌<◌, ◌^◌, ◌==◌, ◌&&◌, ◌||◌, Bool, true, false, not, List, [], ◌∷◌, ◌++◌, append_assoc, append-nil, bit_and, count_by, length, length-drop, length-take, map, take, Option, None, Some, is_some, arith}
use Rattle.std.proofs.Math.Bool.{and-true, and_assoc}
use Rattle.std.proofs.lemmas.Bool.{ne_eqb}
use Rattle.std.proofs.lemmas.List.Folds.{list_any-append}
use Rattle.std.proofs.lemmas.List.Sums.{count_by-le-length}
use Rattle.line_engine.specs.Output.{text_from, text_of}
use Rattle.line_engine.specs.declared.lines.Summary.{Summary}
use Rattle.text_places.specs.Places.{column_of, last_line_len, line_before}
use Rattle.manifests.specs.declared.form.Form.{Form}
use Rattle.manifests.specs.declared.site.Fault.{Fault}
use Rattle.manifests.specs.declared.site.Site.{Site}
use Rattle.finding_forms.specs.declared.forms.Format.{Format}
use Rattle.finding_forms.specs.Forms.{finding_text}
use Rattle.finding_forms.specs.Sarif.{AreNumbered, IsNumbered}
use Rattle.spdx_check.specs.declared.check.Check.{Check}
use Rattle.spdx_check.specs.Checking.{Spot, finding_in_line, found_text, have_finding, rule_by, spot_behind, told_at}
use Rattle.spdx_check.specs.Finding.{Wrong}
use Rattle.check_sources.specs.Findings.{ChecksWritten, Source, findings_text, found_text as found_there, refused_count}
use Rattle.check_sources.specs.Lines.{line_of, within}
use Rattle.check_sources.specs.Manifests.{ChecksManifest, check_in, declared_at, told_of_file}
use Rattle.check_sources.specs.Written.{Written, marked_part, told_in}
use Rattle.check_sources.specs.Owed.{Whole, others_text, told_whole, whole_text, wholes_text}
use Rattle.check_program.proofs.Adding.{Adds, adds_as, adds_both, adds_none, adds_one, none_counted, none_of, told_text}

-- ---- lines

-- what is found in a line is one finding or none
in_line : (format : Format) (b : Bool) (spot : Spot) (found : Option Wrong) → spot.line < 2 ^ 64 → spot.column < 2 ^ 64 → Adds format b (found_text format b spot found) (b && not (is_some found))
in_line format b spot None l c = adds_as format b b (b && true) [] [] (adds_none format b) refl (and-true b)
in_line format b spot (Some wrong) l c =
    adds_one format b (told_at spot wrong) (record { line = l; column = c; seen_line = l; seen_column = omega arith })

one_behind : (a before here : Bool) → (a && not (before || (here || false))) ≡ ((a && not before) && not here)
one_behind false before here = refl
one_behind true true here = refl
one_behind true false true = refl
one_behind true false false = refl

module _ (format : Format) (finding : List ℕ → Option Wrong) (file : List ℕ) (first : Bool) where
  -- nothing was found before these lines, nor in them
  abbrev none_in : List (List ℕ) → Bool
  none_in lines = first && not (have_finding finding lines)

  one_more : (before : List (List ℕ)) (line : List ℕ) → none_in (before ++ line ∷ []) ≡ (none_in before && not (is_some (finding_in_line finding line)))
  one_more before line =
      let is_found : List ℕ → Bool = λ (l : List ℕ). is_some (finding_in_line finding l) in
      ap (λ (b : Bool). first && not b) (list_any-append is_found before (line ∷ [])) ∙ one_behind first (have_finding finding before) (is_found line)

  lines_from : (before lines : List (List ℕ)) → Adds format (none_in before) (text_from (rule_by finding format first file) before lines) (none_in (before ++ lines))
  lines_from before [] =
      adds_as format (none_in before) (none_in before) (none_in (before ++ [])) [] [] (adds_none format (none_in before)) refl (ap none_in (append-nil before))
  lines_from before (line ∷ lines) =
      let rule = rule_by finding format first file in
      let next = before ++ line ∷ [] in
      let own = rule.text before line in
      let rest = text_from rule next lines in
      let found = finding_in_line finding line in
      let here = in_line format (none_in before) (spot_behind file before) found (omega arith) (omega arith) in
      let up_to = adds_as format (none_in before) (none_in before && not (is_some found)) (none_in next) own own here refl (one_more before line) in
      adds_as format (none_in before) (none_in (next ++ lines)) (none_in (before ++ line ∷ lines)) (own ++ rest) (own ++ rest)
      (adds_both format (none_in before) (none_in next) (none_in (next ++ lines)) own rest up_to (lines_from next lines)) refl (ap none_in (sym (append_assoc before (line ∷ []) lines)))

  -- all that is written of lines
  pub lines_added : (lines : List (List ℕ)) → Adds format first (text_of (rule_by finding format first file) lines) (first && (count_by (rule_by finding format first file).refuses lines == 0))
  lines_added lines =
      let rule = rule_by finding format first file in
      let text = text_of rule lines in
      let all = subst (λ (b : Bool). Adds format b text (none_in lines)) (and-true first) (lines_from [] lines) in
      adds_as format first (none_in lines) (first && (count_by rule.refuses lines == 0)) text text all refl (ap (λ (b : Bool). first && b) (sym (none_of rule.refuses lines)))

-- ---- expressions in a file

-- the numbers of lines and columns are those of 64 bits where the file fits into memory
module _ (source : Source) (fits : length source.bytes < 2 ^ 63) where
  line_fits : (at : ℕ) → line_of source.bytes at < 2 ^ 64
  line_fits at =
      let before = take at source.bytes in
      omega (arith, fits, length-take at source.bytes, count_by-le-length (λ (b : ℕ). b == 10) before)

  column_fits : (at : ℕ) → column_of source.bytes at < 2 ^ 64
  column_fits at =
      let before = take at source.bytes in
      omega (
        arith,
        fits,
        length-take at source.bytes,
        length-drop (length before - last_line_len before) before,
        count_by-le-length (λ (b : ℕ). not (bit_and b 0xc0 == 0x80)) (line_before source.bytes at),
      )

  told_numbered : (w : Written) (wrong : Wrong) → IsNumbered (told_in source.path source.bytes w wrong)
  told_numbered w wrong =
      let part = marked_part source.bytes w wrong.place in
      record {
        line = line_fits (within source.bytes w.start);
        column = column_fits (within source.bytes w.start);
        seen_line = line_fits (within source.bytes part.from);
        seen_column = column_fits (within source.bytes part.from);
      }

  file_numbered : (fault : Fault) → IsNumbered (told_of_file source fault)
  file_numbered fault = record {
    line = line_fits (within source.bytes fault.offset);
    column = column_fits (within source.bytes fault.offset);
    seen_line = line_fits (within source.bytes fault.offset);
    seen_column = column_fits (within source.bytes fault.offset);
  }

  in_written : (format : Format) (b : Bool) (w : Written) (found : Option Wrong) → Adds format b (found_there format b source w found) (b && not (is_some found))
  in_written format b w None = adds_as format b b (b && true) [] [] (adds_none format b) refl (and-true b)
  in_written format b w (Some wrong) = adds_one format b (told_in source.path source.bytes w wrong) (told_numbered w wrong)

  written_added : (finding : List ℕ → Option Wrong) (format : Format) (b : Bool) (ws : List Written)
      → Adds format b (findings_text finding format b source ws) (b && (refused_count finding ws == 0))
  written_added finding format b [] = adds_as format b b (b && true) [] [] (adds_none format b) refl (and-true b)
  written_added finding format b (w ∷ ws) =
      let is_found : Written → Bool = λ (x : Written). is_some (finding x.text) in
      let between = b && not (is_found w) in
      let own = found_there format b source w (finding w.text) in
      let rest = findings_text finding format between source ws in
      let behind = between && (refused_count finding ws == 0) in
      adds_as format b behind (b && (refused_count finding (w ∷ ws) == 0)) (own ++ rest) (own ++ rest)
      (adds_both format b between behind own rest (in_written format b w (finding w.text)) (written_added finding format between ws)) refl
      (ap (λ (c : Bool). b && c) (sym (none_counted is_found w ws)) ∙ sym (and_assoc b (not (is_found w)) (refused_count finding ws == 0)))

  pub checks_added : (check : Check) (b : Bool) (ws : List Written) (text : List ℕ) (summary : Summary) → ChecksWritten check b source ws text summary
      → Adds check.format b text (b && (summary.refused == 0))
  checks_added check b ws text summary h =
      adds_as check.format b (b && (refused_count h.finding ws == 0)) (b && (summary.refused == 0)) (findings_text h.finding check.format b source ws) text
      (written_added h.finding check.format b ws) h.written (ap (λ (n : ℕ). b && (n == 0)) h.refused)

  -- a file that is no manifest is a finding itself
  pub manifest_added : (check : Check) (b : Bool) (form : Form) (sites : Option (List Site)) (text : List ℕ) (summary : Summary) → ChecksManifest check b form source sites text summary
      → Adds check.format b text (b && (summary.refused == 0))
  manifest_added check b form (Some sites) text summary h = checks_added (check_in form check) b (map declared_at sites) text summary h.finds
  manifest_added check b form None text summary h =
      adds_as check.format b (b && false) (b && (summary.refused == 0)) (finding_text check.format b (told_of_file source h.fault)) text
      (adds_one check.format b (told_of_file source h.fault) (file_numbered h.fault)) h.text_is (ap (λ (s : Summary). b && (s.refused == 0)) h.summary_is)

-- ---- whole files

module _ (format : Format) where
  wholes_numbered : (ws : List Whole) → AreNumbered (map told_whole ws)
  wholes_numbered [] = tt
  wholes_numbered (w ∷ ws) =
      (record { line = omega arith; column = omega arith; seen_line = omega arith; seen_column = omega arith }, wholes_numbered ws)

  others_are : (ws : List Whole) → others_text format ws ≡ told_text format false (map told_whole ws)
  others_are [] = refl
  others_are (w ∷ ws) = ap (λ (text : List ℕ). whole_text format false w ++ text) (others_are ws)

  pub wholes_added : (b : Bool) (ws : List Whole) → Adds format b (wholes_text format b ws) (b && (length ws == 0))
  wholes_added b [] = adds_as format b b (b && true) [] [] (adds_none format b) refl (and-true b)
  wholes_added b (w ∷ ws) = record {
    findings = map told_whole (w ∷ ws);
    numbered = wholes_numbered (w ∷ ws);
    text_is = ap (λ (text : List ℕ). whole_text format b w ++ text) (others_are ws);
    behind_is = ap (λ (c : Bool). b && c) (ne_eqb (length (w ∷ ws)) 0 (λ e. omega (arith, e)));
  }
