-- The log of findings reads back.
use Rattle.std.proofs.Common.{ℕ, ◌≤◌, List, [], ◌∷◌, map, decimal, arith}
use Rattle.json.specs.Print.{IsNumber}
use Rattle.json.specs.Tree.{depth, items_depth, members_depth, HasNumbers, ItemsHaveNumbers, MembersHaveNumbers}
use Rattle.json.proofs.Printed.Decimals.{IsNumber-decimal}
use Rattle.foreign_text.specs.declared.sinks.Sink.TheVariants.{Message, Path}
use Rattle.foreign_text.specs.Written.{text_for}
use Rattle.finding_forms.specs.Message.{message_text}
use Rattle.finding_forms.specs.Finding.{Aid, nothing, write, names, note, Told, column_behind, fault_of}
use Rattle.finding_forms.specs.SarifLog.{text_object, artifact, items_of}
use Rattle.finding_forms.specs.Sarif.{region, location, replacement, result_of, fixes_of, IsNumbered, AreNumbered, LogReadsBack}
use Rattle.finding_forms.proofs.SarifLogLaw as log

-- ---- each number's text is a number

is_column : (column : ℕ) (text : List ℕ) → IsNumber (decimal (column_behind column text))
is_column column text = IsNumber-decimal (column_behind column text) (omega arith)

artifact_numbers : (path : List ℕ) → HasNumbers (artifact path)
artifact_numbers path = (tt, tt)

text_numbers : (text : List ℕ) → HasNumbers (text_object text)
text_numbers text = (tt, tt)

location_numbers : (path : List ℕ) (t : Told) → IsNumbered t → HasNumbers (location path t)
location_numbers path t h =
    let seen_line = IsNumber-decimal t.seen.line h.seen_line in
    let seen_column = IsNumber-decimal t.seen.column h.seen_column in
    let line = IsNumber-decimal t.line h.line in
    let column = IsNumber-decimal t.column h.column in
    let fault : HasNumbers (region t.seen.line t.seen.column (fault_of t)) = (seen_line, (seen_column, (is_column t.seen.column (fault_of t), ((tt, tt), tt)))) in
    let whole : HasNumbers (region t.line t.column t.expression) = (line, (column, (is_column t.column t.expression, ((tt, tt), tt)))) in
    ((artifact_numbers path, (fault, (whole, tt))), tt)

fixes_numbers : (path : List ℕ) (t : Told) (aid : Aid) → IsNumber (decimal t.line) → IsNumber (decimal t.column) → MembersHaveNumbers (fixes_of path t aid)
fixes_numbers path t nothing h k = tt
fixes_numbers path t (write mended) h k =
    let put : HasNumbers (replacement t mended) = ((h, (k, (is_column t.column t.expression, tt))), (text_numbers mended, tt)) in
    (((((artifact_numbers path, ((put, tt), tt)), tt), tt), tt), tt)
fixes_numbers path t (names listed rule) h k = tt
fixes_numbers path t (note words) h k = tt

result_numbers : (t : Told) → IsNumbered t → HasNumbers (result_of t)
result_numbers t h =
    let path = text_for Path t.file in
    let line = IsNumber-decimal t.line h.line in
    let column = IsNumber-decimal t.column h.column in
    (tt, (tt, (text_numbers (message_text Message t), ((location_numbers path t h, tt), fixes_numbers path t t.aid line column))))

results_numbers : (ts : List Told) → AreNumbered ts → ItemsHaveNumbers (items_of (map result_of ts))
results_numbers [] h = tt
results_numbers (t ∷ ts) h = (result_numbers t h.0, results_numbers ts h.1)

-- ---- it nests a little deep

fixes_depth : (path : List ℕ) (t : Told) (aid : Aid) → members_depth (fixes_of path t aid) ≤ 12
fixes_depth path t nothing = omega arith
fixes_depth path t (write mended) = omega arith
fixes_depth path t (names listed rule) = omega arith
fixes_depth path t (note words) = omega arith

result_depth : (t : Told) → depth (result_of t) ≤ 13
result_depth t = omega (arith, fixes_depth (text_for Path t.file) t t.aid)

results_depth : (ts : List Told) → items_depth (items_of (map result_of ts)) ≤ 13
results_depth [] = omega arith
results_depth (t ∷ ts) = omega (arith, result_depth t, results_depth ts)

pub log_reads_back : LogReadsBack
log_reads_back version ts h = log.log_reads_back version (map result_of ts) (results_numbers ts h) (results_depth ts)
