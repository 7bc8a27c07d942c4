-- A run whose status is 0.
use Rattle.std.proofs.Common.{◌≡◌, ◌∙◌, refl, sym, inl, inr, ℕ, ◌+◌, ◌<◌, true, cond, List, [], ◌∷◌, Option, None, Some, is_some, subst, arith}
use Rattle.std.specs.Prelude.{All, count_by}
use Rattle.std.proofs.lemmas.List.Elements.{All-nil, All-cons, All-append}
use Rattle.std.proofs.lemmas.List.Sums.{sum_by-cons}
use Rattle.line_engine.specs.Device.{Told}
use Rattle.line_engine.specs.Lines.{cut, lines_of}
use Rattle.line_engine.specs.Output.{capped, summary_of}
use Rattle.manifests.specs.declared.form.Form.{Form}
use Rattle.shelves.specs.Shelf.{Shelved}
use Rattle.source_trees.specs.declared.reading.Reading.{Reading}
use Rattle.source_trees.specs.declared.reading.Reading.TheVariants as reading
use Rattle.spdx_check.specs.declared.check.Check.{Check}
use Rattle.spdx_check.specs.Checking.{expression_of, finding_in_line, is_white}
use Rattle.spdx_check.specs.Finding.{Wrong}
use Rattle.spdx_check.proofs.Blanks.{leaves_out_white}
use Rattle.check_sources.specs.Decoding.{source_bytes, without_mark}
use Rattle.check_files.specs.declared.trouble.CheckTrouble.{CheckTrouble}
use Rattle.check_files.specs.Clean.{IsPassing}
use Rattle.check_files.specs.Parts.{source_at}
use Rattle.check_files.specs.Tally.{Tally, tally_of, with_lines}
use Rattle.check_files.specs.Told.{Account, Does}
use Rattle.check_files.proofs.Clean.{accepted, manifest_clean, not_passed, passing, sum_none, tags_clean}
use Rattle.check_program.proofs.TreeClean.{tree_clean}
use Rattle.check_program.specs.declared.run.Request.{Request}
use Rattle.check_program.specs.Clean.{AreAllClean, AreLinesClean, AreLinesCleanAt, IsCleanAs, IsLineClean, IsPartClean, IsPartCleanAt, IsPathClean}
use Rattle.shelves.specs.AtPath.{told_path}
use Rattle.check_program.specs.Lines.{AreFindings, AreLinesChecked, IsLinesStep, rule_of}
use Rattle.check_program.specs.Paths.{ArePathSteps, IsPartChecked, IsPartStep, IsPathStep, IsReadStep, Ways, below, more, none}
use Rattle.check_program.specs.Runs.{Inside, IsRun, ways_in}

-- ---- lines

none_wrong : (found : Option Wrong) → ◌≡◌ {A = ℕ} (cond (is_some found) 1 0) 0 → found ≡ None
none_wrong None e = refl
none_wrong (Some wrong) e = absurd (omega (arith, e))

module _ (check : Check) (finding : List ℕ → Option Wrong) (findings : AreFindings check finding) where
  line_clean : (line : List ℕ) → finding_in_line finding line ≡ None → IsLineClean check line
  line_clean line e is_text =
      let same = (leaves_out_white finding check.format true []).others line is_text in
      accepted check check.mode finding (expression_of line) (findings (expression_of line)) (sym same ∙ e)

  each_clean : (lines : List (List ℕ)) → count_by (λ (line : List ℕ). is_some (finding_in_line finding line)) lines ≡ 0 → All (IsLineClean check) lines
  each_clean [] e = All-nil (IsLineClean check)
  each_clean (line ∷ lines) e =
      let one : List ℕ → ℕ = λ (x : List ℕ). cond (is_some (finding_in_line finding x)) 1 0 in
      let others_count : ℕ = count_by (λ (x : List ℕ). is_some (finding_in_line finding x)) lines in
      let sum : count_by (λ (x : List ℕ). is_some (finding_in_line finding x)) (line ∷ lines) ≡ one line + others_count = sum_by-cons one line lines in
      let first : one line ≡ 0 = omega (arith, sum, e) in
      let others : others_count ≡ 0 = omega (arith, sum, e) in
      All-cons (IsLineClean check) line lines (line_clean line (none_wrong (finding_in_line finding line) first)) (each_clean lines others)

lines_clean : (check : Check) (name bytes : List ℕ) (old : Tally) (text : List ℕ) (new : Tally) → AreLinesChecked check name bytes old text new
    → IsPassing new → IsPassing old × AreLinesClean check bytes
lines_clean check name bytes old text new h passes =
    let now = subst IsPassing h.new_is passes in
    let refused : ℕ = count_by (λ (line : List ℕ). is_some (finding_in_line h.finding line)) (lines_of bytes) in
    let counts = sum_none old.totals.refused (capped refused) now.none_refused in
    let none : refused ≡ 0 = omega (arith, counts.1) in
    (record { is_whole = now.is_whole; none_refused = counts.0; none_owed = now.none_owed; none_bare = now.none_bare }, each_clean check h.finding h.findings (lines_of bytes) none)

module _ (s : Shelved) (check : Check) where
  lines_step : (path : List ℕ) (old : Tally) (text : List ℕ) (told : List CheckTrouble) (new : Tally) → IsLinesStep s check path old text told new
      → IsPassing new → IsPassing old × AreLinesCleanAt s check path
  lines_step path old text told new (inl (inl h)) passes =
      let parts = lines_clean check (told_path path) h.0 old text new h.2 passes in (parts.0, (h.0, h.1, parts.1))
  lines_step path old text told new (inl (inr h)) passes =
      let lines = (cut h.0).whole in
      let counted = with_lines (summary_of (rule_of check h.4.finding old (told_path path)) lines) (capped (count_by is_white lines)) old in
      absurd (not_passed counted new h.4.new_is passes)
  lines_step path old text told new (inr h) passes = absurd (not_passed old new h.new_is passes)

  -- ---- a file that is read whole

  part_clean : (form : Option Form) (name bytes : List ℕ) (old : Tally) (text : List ℕ) (new : Tally) → IsPartChecked check form name bytes old text new
      → IsPassing new → IsPassing old × IsPartClean check form name bytes
  part_clean (Some form) name bytes old text new h passes = manifest_clean check form (source_at name (without_mark bytes)) old h.0 text h.1 new h.2 passes
  part_clean None name bytes old text new h passes = tags_clean check (source_at name (source_bytes bytes)) old text h.0 new h.1 passes

  part_step : (form : Option Form) (path : List ℕ) (old : Tally) (text : List ℕ) (told : List CheckTrouble) (new : Tally) → IsPartStep s check form path old text told new
      → IsPassing new → IsPassing old × IsPartCleanAt s check form path
  part_step form path old text told new (inl h) passes =
      let parts = part_clean form (told_path path) h.0 old text new h.2 passes in (parts.0, (h.0, h.1, parts.1))
  part_step form path old text told new (inr h) passes = absurd (not_passed old new h.new_is passes)

  -- ---- paths

  module _ (w : Ways) where
    read_step : (r : Reading) (path : List ℕ) (old : Tally) (text : List ℕ) (told : List CheckTrouble) (new : Tally) → IsReadStep s check w r path old text told new
        → IsPassing new → IsPassing old × IsCleanAs s check w r path
    read_step reading.Lines path old text told new h passes = lines_step path old text told new h passes
    read_step reading.Tags path old text told new h passes = part_step None path old text told new h passes
    read_step (reading.Manifest form) path old text told new h passes = part_step (Some form) path old text told new h passes
    read_step (reading.Tree taken) path old text told new h passes = tree_clean s check (below w taken) path old text told new h passes

    path_step : (path : List ℕ) (old : Tally) (text : List ℕ) (told : List CheckTrouble) (new : Tally) → IsPathStep s check w path old text told new
        → IsPassing new → IsPassing old × IsPathClean s check w path
    path_step path old text told new (inl h) passes =
        let parts = read_step h.0 path old text told new h.2 passes in (parts.0, (h.0, h.1, parts.1))
    path_step path old text told new (inr h) passes = absurd (not_passed old new h.passed.new_is passes)

    all_clean : {paths : List (List ℕ)} {old : Tally} {text : List ℕ} {told : List CheckTrouble} {new : Tally} → ArePathSteps s check w paths old text told new
        → IsPassing new → IsPassing old × All (IsPathClean s check w) paths
    all_clean none passes = (passes, All-nil (IsPathClean s check w))
    all_clean (more {paths = paths} {between = between} {new = new} path own own_told before step) passes =
        let last = path_step path between own own_told new step passes in
        let others = all_clean before last.0 in
        (others.0, All-append (IsPathClean s check w) paths (path ∷ []) others.1 (All-cons (IsPathClean s check w) path [] last.1 (All-nil (IsPathClean s check w))))

-- ---- a run

run_clean : (s : Shelved) (inside : Inside) (a : Request) (text : List ℕ) (told : List CheckTrouble) (status : ℕ) → IsRun s inside a text told status → status < 1 → AreAllClean s inside a
run_clean s inside a text told status h low =
    let passes = passing (tally_of h.2.sums) (subst (λ (n : ℕ). n < 1) h.2.status_is low) in
    record { check = h.0; is = h.1; each = (all_clean s h.0 (ways_in a) h.2.steps passes).1 }

-- where the status of a run is 0, all is read and accepted
pub clean : (out out' : Told) (heard heard' : Account CheckTrouble) (s : Shelved) (inside : Inside) (a : Request) (status : ℕ)
    → Does out out' heard heard' (λ text told. IsRun s inside a text told status) → status < 1 → AreAllClean s inside a
clean out out' heard heard' s inside a status h low = run_clean s inside a h.text h.told status h.is low
