use Rattle.std.proofs.Common.{rules, arith, sym, ◌∙◌, ap, subst, ◌≡◌, ◌+◌, ◌<◌, ℕ, Bool, true, false, cond, List, [], ◌∷◌, Option, Some, length, map, drop, All}
use Rattle.std.specs.Prelude.{not}
use Rattle.std.specs.Global.{Vec}
use Rattle.std.specs.List.{find}
use Rattle.std.proofs.lemmas.List.{drop_all, drop_more}
use Rattle.spdx_parser.specs.declared.node.ExprNode.{ExprNode}
use Rattle.spdx_evaluation.specs.Postfix.{tree_in}
use Rattle.spdx_evaluation.specs.Truth.{truth_of}
use Rattle.selections.specs.Sets.{is_in, set_of, sets_in}
use Rattle.spdx_meaning.proofs.Marks.{marks_tell, still_low}
use Rattle.spdx_meaning.proofs.asks.first_failing.Goals as goal

abbrev fails : List ExprNode → List ℕ → List ℕ → Bool
fails nodes numbers s = not (truth_of (tree_in nodes) (map (is_in s) numbers))

-- the first of those that are left
first_left : (F : List ℕ → Bool) (v : Vec ℕ) (vs : List (Vec ℕ)) (b : Bool) → F (set_of v) ≡ b → find F (sets_in (v ∷ vs)) ≡ cond b (Some (set_of v)) (find F (sets_in vs))
first_left F v vs b e = ap (λ (z : Bool). cond z (Some (set_of v)) (find F (sets_in vs))) e

pub returns-then-not-holds_with : goal.returns-then-not-holds_with
returns-then-not-holds_with c =
    let F = fails c.args.nodes.now c.args.numbers.now in
    let sets = c.args.sets.now in
    let i = c.loop-index.index in
    let v = c.index-sets-index.result in
    let rest = drop (i + 1) sets in
    let tail : drop i sets ≡ v ∷ rest = drop_more sets i v c.loop-index-test.true ∙ ap (λ (z : Vec ℕ). z ∷ rest) (sym c.index-sets-index.is) in
    let within : All (λ k. k < length c.loop-index.marks) c.args.numbers.now = subst (λ (n : ℕ). All (λ k. k < n) c.args.numbers.now) (search rules) c.requires.within in
    let told = marks_tell c.loop-index.marks c.as_slice.result.now (i + 1) c.mark_each.new.marks c.mark_each.ensures (λ k. omega (arith, c.loop-index.invariant.low k)) c.args.numbers.now within in
    let here : F (set_of v) ≡ true =
    ap F (sym c.as_slice.ensures.value) ∙ ap (λ (z : List Bool). not (truth_of (tree_in c.args.nodes.now) z)) (sym told) ∙ ap not (sym c.if-not-holds_with.ensures.answer) in
    ap Some c.as_slice-then-not-holds_with.ensures.value ∙ sym (first_left F v rest true here) ∙ ap (λ (z : List (Vec ℕ)). find F (sets_in z)) (sym tail) ∙ c.loop-index.invariant.none

pub loop-index-preserved : goal.loop-index-preserved
loop-index-preserved c =
    let F = fails c.args.nodes.now c.args.numbers.now in
    let sets = c.args.sets.now in
    let i = c.loop-index.index in
    let v = c.index-sets-index.result in
    let rest = drop (i + 1) sets in
    let tail : drop i sets ≡ v ∷ rest = drop_more sets i v c.loop-index-test.true ∙ ap (λ (z : Vec ℕ). z ∷ rest) (sym c.index-sets-index.is) in
    let within : All (λ k. k < length c.loop-index.marks) c.args.numbers.now = subst (λ (n : ℕ). All (λ k. k < n) c.args.numbers.now) (search rules) c.requires.within in
    let low : (k : ℕ) → _ < i + 1 = λ k. omega (arith, c.loop-index.invariant.low k) in
    let told = marks_tell c.loop-index.marks c.as_slice.result.now (i + 1) c.mark_each.new.marks c.mark_each.ensures low c.args.numbers.now within in
    let here : F (set_of v) ≡ false =
    ap F (sym c.as_slice.ensures.value) ∙ ap (λ (z : List Bool). not (truth_of (tree_in c.args.nodes.now) z)) (sym told) ∙ ap not (sym c.if-not-holds_with.ensures.answer) in
    record {
      none = sym (first_left F v rest false here) ∙ ap (λ (z : List (Vec ℕ)). find F (sets_in z)) (sym tail) ∙ c.loop-index.invariant.none;
      room = omega (arith, c.loop-index.invariant.room, c.holds_with.ensures.room);
      low = still_low c.loop-index.marks c.as_slice.result.now (i + 1) c.mark_each.new.marks c.mark_each.ensures low (search rules);
    }
