use Rattle.std.proofs.Common.{◌≡◌, ℕ, ◌+◌, List, take}
use Rattle.std.specs.Prelude.{bytes_eq, count_by, unwrap_or}
use Rattle.std.specs.Ordering.{nat_cmp}
use Rattle.std.specs.Cmp.Lexicographic.{slice_cmp}
use Rattle.std.specs.BTreeMap.{get_by}
use Rattle.spdx_gate.proofs.needs.count_each.Given as goal

abbrev pub invariant-loop-text : goal.invariant-loop-text
invariant-loop-text l =
    (q : List ℕ) → unwrap_or (get_by (λ k. slice_cmp nat_cmp q k.now) l.counts) 0
    ≡ unwrap_or (get_by (λ k. slice_cmp nat_cmp q k.now) l.initial.counts) 0 + count_by (λ t. bytes_eq q t.now) (take l.text-index l.texts)
