use Rattle.std.proofs.Common.{◌≡◌, ◌≤◌, ap, subst, sym, ◌∙◌, Some, option_map, string_bytes}
use Rattle.std.proofs.lemmas.Result.{IfOk-weaker}
use Rattle.std.proofs.lemmas.Str.{IsUtf8-string_bytes, is_utf8-from_IsUtf8}
use Rattle.serde_json.specs.Data.{Data, depth}
use Rattle.serde_json.specs.Read.{max_depth}
use Rattle.serde_json.specs.View.{view}
use Rattle.spdx_tables.specs.TableReading.{rows_of}
use Rattle.spdx_tables.specs.Written.{tables_data}
use Rattle.spdx_tables.proofs.Back.{date_back, shallow, text_back}
use Rattle.spdx_list.proofs.text.text_of.Goals as goal

pub returns-clause-tables : goal.returns-clause-tables
returns-clause-tables c =
    let rows = rows_of c.args.tables.now in
    let date = option_map string_bytes c.args.date.now in
    let is : view c.in_ok-value.value ≡ tables_data rows date = c.in_ok-value.ensures.value in
    let deep : depth (view c.in_ok-value.value) ≤ max_depth = subst (λ (d : Data). depth d ≤ max_depth) (sym is) (shallow rows date) in
    IfOk-weaker c.to_string_pretty.result _ _ (λ text reads. text_back (string_bytes text) rows date c.in_ok-value.ensures.fit (is_utf8-from_IsUtf8 (string_bytes text) (IsUtf8-string_bytes text)) (reads deep ∙ ap Some is)) c.to_string_pretty.ensures.reads_back

pub returns-clause-date : goal.returns-clause-date
returns-clause-date c =
    let rows = rows_of c.args.tables.now in
    let date = option_map string_bytes c.args.date.now in
    let is : view c.in_ok-value.value ≡ tables_data rows date = c.in_ok-value.ensures.value in
    let deep : depth (view c.in_ok-value.value) ≤ max_depth = subst (λ (d : Data). depth d ≤ max_depth) (sym is) (shallow rows date) in
    IfOk-weaker c.to_string_pretty.result _ _ (λ text reads. date_back (string_bytes text) rows date (is_utf8-from_IsUtf8 (string_bytes text) (IsUtf8-string_bytes text)) (reads deep ∙ ap Some is)) c.to_string_pretty.ensures.reads_back
