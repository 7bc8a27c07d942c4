use Rattle.std.proofs.Common.{◌≡◌, ◌++◌, ℕ, Bool, true, false, cond, List, [], OnOk, length, map, sym, ap, ◌∙◌, subst, append_assoc, append-nil, arith}
use Rattle.std.specs.List.{flat_map, list_any, range_with_len}
use Rattle.std.proofs.lemmas.List.{length-map}
use Rattle.line_diff.specs.declared.rows.Row.{Row}
use Rattle.line_diff.specs.Diff.{Pair, pair_of, is_changed, rows_of, shown_text, names_text, diff_of}
use Rattle.line_diff.proofs.Applies.{diff_applies}
use Rattle.line_diff.proofs.Shown.{list_any-map}
use Rattle.line_diff.proofs.Heads.{names_this_file}
use Rattle.line_diff.proofs.Sides.{are_the_texts}
use Rattle.line_diff.proofs.put_diff.Goals as goal

changed : (rows : List Row) (pairs : List Pair) (b : Bool) → map pair_of rows ≡ pairs → b ≡ list_any (λ r. is_changed (pair_of r)) rows → list_any is_changed pairs ≡ b
changed rows pairs b e t = ap (list_any is_changed) (sym e) ∙ list_any-map pair_of is_changed rows ∙ sym t

shown : List Pair → ℕ → List ℕ
shown pairs n = flat_map (shown_text pairs) (range_with_len 0 n)

diff_by : (name : List ℕ) (pairs : List Pair) (b : Bool) → list_any is_changed pairs ≡ b → diff_of name pairs ≡ cond b (names_text name ++ shown pairs (length pairs)) []
unfolding shown
diff_by name pairs b t = ap (λ (c : Bool). cond c (names_text name ++ shown pairs (length pairs)) []) t

pub returns-then-not-any_changed-clause-ok : goal.returns-then-not-any_changed-clause-ok
returns-then-not-any_changed-clause-ok c =
    let text = c.args.text.now.items in
    let pairs = rows_of c.args.old.now c.args.new.now in
    let none = changed c.deref.result.now pairs false (ap (map pair_of) c.deref.ensures.value ∙ c.in_ok-rows.ensures) (sym c.if-not-any_changed.true ∙ c.any_changed.ensures) in
    sym (ap (λ (xs : List ℕ). text ++ xs) (diff_by c.args.name.now pairs false none) ∙ append-nil text)

pub returns-clause-ok : goal.returns-clause-ok
unfolding shown
returns-clause-ok c =
    let text = c.args.text.now.items in
    let pairs = rows_of c.args.old.now c.args.new.now in
    let name = names_text c.args.name.now in
    let rows = c.deref-2.result.now in
    let some = changed c.deref.result.now pairs true (ap (map pair_of) c.deref.ensures.value ∙ c.in_ok-rows.ensures) (sym c.if-not-any_changed.false ∙ c.any_changed.ensures) in
    let same = ap (map pair_of) c.deref-2.ensures.value ∙ c.in_ok-rows.ensures in
    let all =
    ap (λ (xs : List ℕ). xs ++ shown (map pair_of rows) (length rows)) c.in_ok-put_names.ensures
    ∙ append_assoc text name (shown (map pair_of rows) (length rows))
    ∙ ap (λ (ps : List Pair). text ++ (name ++ shown ps (length rows))) same
    ∙ ap (λ (n : ℕ). text ++ (name ++ shown pairs n)) (sym (length-map rows pair_of) ∙ ap length same)
    ∙ ap (λ (xs : List ℕ). text ++ xs) (sym (diff_by c.args.name.now pairs true some)) in
    subst (λ (xs : List ℕ). OnOk c.put_rows.result (c.put_rows.new.text.items ≡ xs)) all c.put_rows.ensures

pub returns-then-not-any_changed-clause-names : goal.returns-then-not-any_changed-clause-names
returns-then-not-any_changed-clause-names c = names_this_file c.args.name.now c.utf8.name

pub returns-in_err-rows-clause-names : goal.returns-in_err-rows-clause-names
returns-in_err-rows-clause-names c = names_this_file c.args.name.now c.utf8.name

pub returns-in_err-put_names-clause-names : goal.returns-in_err-put_names-clause-names
returns-in_err-put_names-clause-names c = names_this_file c.args.name.now c.utf8.name

pub returns-clause-names : goal.returns-clause-names
returns-clause-names c = names_this_file c.args.name.now c.utf8.name

pub returns-then-not-any_changed-clause-texts : goal.returns-then-not-any_changed-clause-texts
returns-then-not-any_changed-clause-texts c = are_the_texts c.args.old.now c.args.new.now

pub returns-in_err-rows-clause-texts : goal.returns-in_err-rows-clause-texts
returns-in_err-rows-clause-texts c = are_the_texts c.args.old.now c.args.new.now

pub returns-in_err-put_names-clause-texts : goal.returns-in_err-put_names-clause-texts
returns-in_err-put_names-clause-texts c = are_the_texts c.args.old.now c.args.new.now

pub returns-clause-texts : goal.returns-clause-texts
returns-clause-texts c = are_the_texts c.args.old.now c.args.new.now

pub returns-then-not-any_changed-clause-applies : goal.returns-then-not-any_changed-clause-applies
returns-then-not-any_changed-clause-applies c = diff_applies c.args.name.now c.args.old.now c.args.new.now (omega arith) (omega arith)

pub returns-in_err-rows-clause-applies : goal.returns-in_err-rows-clause-applies
returns-in_err-rows-clause-applies c = diff_applies c.args.name.now c.args.old.now c.args.new.now (omega arith) (omega arith)

pub returns-in_err-put_names-clause-applies : goal.returns-in_err-put_names-clause-applies
returns-in_err-put_names-clause-applies c = diff_applies c.args.name.now c.args.old.now c.args.new.now (omega arith) (omega arith)

pub returns-clause-applies : goal.returns-clause-applies
returns-clause-applies c = diff_applies c.args.name.now c.args.old.now c.args.new.now (omega arith) (omega arith)
