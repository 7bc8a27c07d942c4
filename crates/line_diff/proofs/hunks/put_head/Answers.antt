use Rattle.std.proofs.Common.{◌≡◌, ℕ, ◌++◌, List, OnOk, sym, ap, ◌∙◌, subst}
use Rattle.std.specs.Prelude.{codes}
use Rattle.line_diff.specs.Diff.{range_text}
use Rattle.line_diff.proofs.Shown.{hunk_head-is, on_ok}
use Rattle.line_diff.proofs.hunks.put_head.Goals as goal

pub returns : goal.returns
returns c =
    let text = c.args.text.now.items in
    let new = c.extend_from_slice.new.self.items in
    let a = c.old_count.result in
    let b = c.new_count.result in
    let old = c.as_str.ensures.value ∙ c.in_ok-old.ensures in
    let later = c.as_str-2.ensures.value ∙ c.in_ok-new.ensures in
    let head =
    c.as_bytes.ensures.value ∙ c.in_ok-head.ensures
    ∙ ap (λ (xs : List ℕ). codes "@@ -" ++ (xs ++ (codes " +" ++ (c.as_str-2.result.now ++ codes " @@\n")))) old
    ∙ ap (λ (xs : List ℕ). codes "@@ -" ++ (range_text c.args.i a ++ (codes " +" ++ (xs ++ codes " @@\n")))) later
    ∙ sym (hunk_head-is c.args.rows.now c.args.i c.hunk_len.result a b c.hunk_len.ensures.value c.old_count.ensures c.new_count.ensures) in
    subst (λ (xs : List ℕ). OnOk c.extend_from_slice.result (new ≡ text ++ xs)) head
    (on_ok c.extend_from_slice.result new (text ++ c.as_bytes.result.now) text c.extend_from_slice.ensures.items)
