-- The text of findings, between the beginning and the ending of a log, is the log.
use Rattle.std.proofs.Common.{◌≡◌, ◌∙◌, refl, sym, ap, ℕ, ◌≤◌, Bool, true, false, List, [], ◌∷◌, ◌++◌, append_assoc, append-nil, map, decimal, Some, arith}
use Rattle.json.specs.Json.{document}
use Rattle.json.specs.Print.{IsNumber}
use Rattle.json.specs.Tree.{depth, items_depth, members_depth, HasNumbers, ItemsHaveNumbers, MembersHaveNumbers}
use Rattle.json.proofs.Printed.Decimals.{IsNumber-decimal}
use Rattle.foreign_text.specs.declared.sinks.Sink.TheVariants.{Path}
use Rattle.foreign_text.specs.Written.{text_for}
use Rattle.finding_forms.specs.declared.forms.Format.TheVariants.{Sarif}
use Rattle.finding_forms.specs.Finding.{Aid, Told, column_behind, fault_of, names, note, nothing, write}
use Rattle.finding_forms.specs.Forms.{beginning, ending, finding_text}
use Rattle.finding_forms.specs.SarifLog.{items_of, log_of, log_text, results_text, sarif_beginning, sarif_closing}
use Rattle.finding_forms.specs.Sarif.{AreNumbered, IsNumbered, fixes_of, location, region, replacement, result_of}
use Rattle.finding_forms.proofs.SarifLogLaw as log
use Rattle.check_program.proofs.Adding.{told_text}

-- ---- each number of a result is one

is_column : (column : ℕ) (text : List ℕ) → IsNumber (decimal (column_behind column text))
is_column column text = IsNumber-decimal (column_behind column text) (omega arith)

region_numbers : (line column : ℕ) (text : List ℕ) → IsNumber (decimal line) → IsNumber (decimal column) → HasNumbers (region line column text)
region_numbers line column text h k = (h, (k, (is_column column text, ((tt, tt), tt))))

location_numbers : (path : List ℕ) (t : Told) → IsNumbered t → HasNumbers (location path t)
location_numbers path t h =
    let fault = region_numbers t.seen.line t.seen.column (fault_of t) (IsNumber-decimal t.seen.line h.seen_line) (IsNumber-decimal t.seen.column h.seen_column) in
    let whole = region_numbers t.line t.column t.expression (IsNumber-decimal t.line h.line) (IsNumber-decimal t.column h.column) in
    (((tt, tt), (fault, (whole, tt))), tt)

fixes_numbers : (path : List ℕ) (t : Told) (aid : Aid) → IsNumbered t → MembersHaveNumbers (fixes_of path t aid)
fixes_numbers path t nothing h = tt
fixes_numbers path t (write mended) h =
    let put : HasNumbers (replacement t mended) = ((IsNumber-decimal t.line h.line, (IsNumber-decimal t.column h.column, (is_column t.column t.expression, tt))), ((tt, tt), tt)) in
    ((((((tt, tt), ((put, tt), tt)), tt), tt), tt), tt)
fixes_numbers path t (names listed rule) h = tt
fixes_numbers path t (note words) h = tt

results_numbers : (ts : List Told) → AreNumbered ts → ItemsHaveNumbers (items_of (map result_of ts))
results_numbers [] h = tt
results_numbers (t ∷ ts) h =
    let path = text_for Path t.file in
    let one : HasNumbers (result_of t) = (tt, (tt, ((tt, tt), ((location_numbers path t h.0, tt), fixes_numbers path t t.aid h.0)))) in
    (one, results_numbers ts h.1)

-- ---- it nests a little deep

fixes_depth : (path : List ℕ) (t : Told) (aid : Aid) → members_depth (fixes_of path t aid) ≤ 12
fixes_depth path t nothing = omega arith
fixes_depth path t (write mended) = omega arith
fixes_depth path t (names listed rule) = omega arith
fixes_depth path t (note words) = omega arith

result_depth : (t : Told) → depth (result_of t) ≤ 13
result_depth t = omega (arith, fixes_depth (text_for Path t.file) t t.aid)

results_depth : (ts : List Told) → items_depth (items_of (map result_of ts)) ≤ 13
results_depth [] = omega arith
results_depth (t ∷ ts) = omega (arith, result_depth t, results_depth ts)

-- ---- the log

pub reads_back : (version : List ℕ) (ts : List Told) → AreNumbered ts → document (log_text version (map result_of ts)) ≡ Some (log_of version (map result_of ts))
reads_back version ts h = log.log_reads_back version (map result_of ts) (results_numbers ts h) (results_depth ts)

texts_are : (b : Bool) (ts : List Told) → told_text Sarif b ts ≡ results_text b (map result_of ts)
texts_are b [] = refl
texts_are b (t ∷ ts) = ap (λ (x : List ℕ). finding_text Sarif b t ++ x) (texts_are false ts)

-- a newline stands behind it
pub is_log : (version : List ℕ) (ts : List Told) → beginning Sarif version ++ (told_text Sarif true ts ++ (ending Sarif ++ [])) ≡ log_text version (map result_of ts) ++ 10 ∷ []
is_log version ts =
    let results = results_text true (map result_of ts) in
    ap (λ (x : List ℕ). sarif_beginning version ++ (x ++ (ending Sarif ++ []))) (texts_are true ts)
    ∙ ap (λ (x : List ℕ). sarif_beginning version ++ (results ++ x)) (append-nil (ending Sarif))
    ∙ ap (λ (x : List ℕ). sarif_beginning version ++ x) (sym (append_assoc results sarif_closing (10 ∷ [])))
    ∙ sym (append_assoc (sarif_beginning version) (results ++ sarif_closing) (10 ∷ []))
