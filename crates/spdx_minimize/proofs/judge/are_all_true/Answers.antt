use Rattle.std.proofs.Common.{rules, arith, refl, sym, ◌∙◌, ap, ◌≡◌, ◌≤◌, ◌+◌, ◌/◌, ℕ, Bool, true, false, ◌&&◌, List, length, drop, map, slice_range}
use Rattle.spdx_minimize.specs.declared.nodes.TreeNodes.{TreeNodes}
use Rattle.spdx_minimize.specs.declared.question.Part.{Part}
use Rattle.spdx_evaluation.specs.Truth.{truth_of}
use Rattle.spdx_minimize.specs.Trees.{tree_of_nodes, trees_in}
use Rattle.spdx_minimize.specs.Places.{part_of, any_at, met_by, all_true}
use Rattle.spdx_minimize.proofs.Places.{each_fits, parts_left, one_each, some_within, one_of_all}
use Rattle.spdx_minimize.proofs.judge.are_all_true.Goals as goal

pub slice_bounds-parts-end : goal.slice_bounds-parts-end
slice_bounds-parts-end c =
    let meeting = c.args.meeting.now in
    let left = parts_left c.args.lists.now c.loop-list.list-index c.list-item.result c.loop-list.first (length meeting.parts.items) c.loop-list-test.true c.list-item.is c.loop-list.invariant.left in
    omega (arith, left, ap (λ (ps : List Part). length ps) c.as_slice-all_parts.ensures)

pub invariant_of-question : goal.invariant_of-question
invariant_of-question c =
    let meeting = c.args.meeting.now in
    let list = c.list-item.result in
    let first = c.loop-list.first in
    let next = first + (length list.nodes.now / 2 + 1) in
    let ps = c.as_slice-all_parts.result.now in
    let left = parts_left c.args.lists.now c.loop-list.list-index list first (length meeting.parts.items) c.loop-list-test.true c.list-item.is c.loop-list.invariant.left in
    let there : next ≤ length ps = omega (arith, left, ap (λ (ps : List Part). length ps) c.as_slice-all_parts.ensures) in
    record {
      postfix = list.postfix;
      each = one_each list.nodes.now list.postfix ps first there;
      within = some_within meeting.places.items c.as_slice-places.result.now meeting.parts.items ps first next c.as_slice-places.ensures c.as_slice-all_parts.ensures meeting.within;
    }

pub is_true-requires : goal.is_true-requires
is_true-requires c =
    let fits = each_fits c.args.lists.now c.loop-list.list-index c.list-item.result c.loop-list-test.true in
    omega (arith, fits, ap (λ (list : TreeNodes). length list.nodes.now) c.list-item.is, c.requires.room, c.loop-list.invariant.room)

pub returns-then-not-is_true-clause-answer : goal.returns-then-not-is_true-clause-answer
returns-then-not-is_true-clause-answer c =
    let meeting = c.args.meeting.now in
    let selection = c.args.selection.now in
    let lists = c.args.lists.now in
    let i = c.loop-list.list-index in
    let list = c.list-item.result in
    let first = c.loop-list.first in
    let next = first + (length list.nodes.now / 2 + 1) in
    let t = tree_of_nodes list in
    let rest = all_true (trees_in (drop (i + 1) lists)) (drop next (map (any_at selection) (met_by meeting))) in
    let one = one_of_all lists i list selection meeting.places.items meeting.parts.items first next c.loop-list-test.true c.list-item.is refl in
    let here : c.is_true.result ≡ truth_of t (map (any_at selection) (map (part_of meeting.places.items) (slice_range meeting.parts.items first next))) =
    c.is_true.ensures.answer
    ∙ ap (λ (ks : List ℕ). truth_of t (map (any_at selection) (map (part_of ks) (slice_range c.as_slice-all_parts.result.now first next)))) c.as_slice-places.ensures
    ∙ ap (λ (ps : List Part). truth_of t (map (any_at selection) (map (part_of meeting.places.items) (slice_range ps first next)))) c.as_slice-all_parts.ensures in
    let no : c.is_true.result ≡ false = search rules in
    sym (sym c.loop-list.invariant.answer ∙ one ∙ ap (λ (b : Bool). b && rest) (sym here ∙ no))

pub loop-list-preserved : goal.loop-list-preserved
loop-list-preserved c =
    let meeting = c.args.meeting.now in
    let selection = c.args.selection.now in
    let lists = c.args.lists.now in
    let i = c.loop-list.list-index in
    let list = c.list-item.result in
    let first = c.loop-list.first in
    let next = first + (length list.nodes.now / 2 + 1) in
    let t = tree_of_nodes list in
    let rest = all_true (trees_in (drop (i + 1) lists)) (drop next (map (any_at selection) (met_by meeting))) in
    let one = one_of_all lists i list selection meeting.places.items meeting.parts.items first next c.loop-list-test.true c.list-item.is refl in
    let here : c.is_true.result ≡ truth_of t (map (any_at selection) (map (part_of meeting.places.items) (slice_range meeting.parts.items first next))) =
    c.is_true.ensures.answer
    ∙ ap (λ (ks : List ℕ). truth_of t (map (any_at selection) (map (part_of ks) (slice_range c.as_slice-all_parts.result.now first next)))) c.as_slice-places.ensures
    ∙ ap (λ (ps : List Part). truth_of t (map (any_at selection) (map (part_of meeting.places.items) (slice_range ps first next)))) c.as_slice-all_parts.ensures in
    let yes : c.is_true.result ≡ true = search rules in
    record {
      left = parts_left lists i list first (length meeting.parts.items) c.loop-list-test.true c.list-item.is c.loop-list.invariant.left;
      answer = sym (one ∙ ap (λ (b : Bool). b && rest) (sym here ∙ yes)) ∙ c.loop-list.invariant.answer;
      room = c.is_true.ensures.room ∙ c.loop-list.invariant.room;
    }
