use Rattle.std.proofs.Common.{ℕ, ◌+◌, ◌≤◌, ◌<◌, ◌^◌, List, Bor, [], length, get_or, take, arith, ap, ◌∙◌}
use Rattle.std.specs.Prelude.{bytes_eq, count_by, unwrap_or}
use Rattle.std.specs.Ordering.{nat_cmp}
use Rattle.std.specs.Cmp.Lexicographic.{slice_cmp}
use Rattle.std.specs.BTreeMap.{get_by}
use Rattle.std.proofs.lemmas.Grind.{text_counts}
use Rattle.std.proofs.lemmas.List.{take_all}
use Rattle.std.proofs.lemmas.List.Sums.{count_by-le-length}
use Rattle.spdx_gate.specs.Counts.{count_in}
use Rattle.spdx_gate.proofs.Counted.{seen_times}
use Rattle.spdx_gate.proofs.needs.count_each.Goals as goal

pub overflow_add-counts : goal.overflow_add-counts
overflow_add-counts c =
    let texts = c.args.texts.now in
    let i = c.loop-text.text-index in
    let q = (get_or texts i (record { ref_ptr = (0, 0); now = [] })).now in
    let few : count_by (λ (t : Bor (List ℕ)). bytes_eq q t.now) (take i texts) ≤ length (take i texts) = count_by-le-length _ _ in
    let room : unwrap_or (get_by (λ (k : Bor (List ℕ)). slice_cmp nat_cmp q k.now) c.args.counts.now) 0 + length texts < 2 ^ 64 = c.requires q in
    grind (arith, text_counts, room, few)

pub loop-text-preserved : goal.loop-text-preserved
loop-text-preserved c = grind (arith, text_counts)

pub returns : goal.returns
returns c = λ q.
    let texts = c.args.texts.now in
    c.loop-text.invariant q
    ∙ ap (λ (ts : List (Bor (List ℕ))). count_in c.args.counts.now q + count_by (λ t. bytes_eq q t.now) ts) (take_all c.loop-text.text-index texts c.loop-text-test.false)
    ∙ ap (λ (n : ℕ). count_in c.args.counts.now q + n) (seen_times texts q)
