use Rattle.std.proofs.Common.{ℕ, ◌+◌, ◌<◌, cond, List, length, map, take, string_bytes, sym, ap, ◌∙◌}
use Rattle.std.specs.Prelude.{count_by}
use Rattle.std.proofs.lemmas.List.Sums.{sum_by_more}
use Rattle.spdx_gate.specs.declared.report.Row.{Row}
use Rattle.spdx_gate.specs.Needs.{is_among, needed_by}
use Rattle.spdx_gate.proofs.report.Report.packages_needing.Goals as goal

pub loop-row-preserved : goal.loop-row-preserved
loop-row-preserved c = λ q.
    let js = c.args.self.now.judgements.items in
    let rows = c.as_slice-rows.result.now in
    let i = c.loop-row.row-index in
    let row = c.row-item.result in
    let lt : i < length rows = c.loop-row-test.true in
    let test = λ (r : Row). is_among (needed_by js r) q in
    c.in_ok-count_different.ensures q
    ∙ ap (λ (n : ℕ). n + cond (is_among (map string_bytes c.needed_by.result.now) q) 1 0) (c.loop-row.invariant q)
    ∙ ap (λ (ts : List (List ℕ)). count_by test (take i rows) + cond (is_among ts q) 1 0) c.needed_by.ensures
    ∙ ap (λ (r : Row). count_by test (take i rows) + cond (test r) 1 0) c.row-item.is
    ∙ sym (sum_by_more (λ r. cond (test r) 1 0) rows i row lt)
