-- The verdict doesn't hang on the order and the grouping of operands.
use Rattle.std.proofs.Common.{◌≡◌, ℕ, Bool, true, false, List, ◌++◌, length, take, drop, map, [], refl, sym, ◌∙◌, ap, arith}
use Rattle.std.proofs.lemmas.List.{map-append, length-map, take-append-le, drop-append-le, take_all, drop_all}
use Rattle.spdx_requirement.specs.Rows.{Rows}
use Rattle.spdx_requirement.specs.Items.{Requirement}
use Rattle.spdx_parser.specs.declared.node.Operator.{Operator}
use Rattle.spdx_parser.specs.declared.node.Operator.TheVariants.{And, Or}
use Rattle.spdx_parser.specs.Tree.{Tree, Join, leaves}
use Rattle.spdx_evaluation.specs.Truth.{joined, truth_of, holds}
use Rattle.spdx_policy.specs.Rules.{Rules}
use Rattle.spdx_gate.specs.declared.judgement.Outcome.{Outcome}
use Rattle.spdx_gate.specs.Allowing.{allowed_in}
use Rattle.spdx_gate.specs.Judging.{verdict_of, IsOutcome}
use Rattle.spdx_gate.specs.Verdicts.{verdict_by}
use Rattle.spdx_gate.specs.Rearranged as rearranged
use Rattle.spdx_gate.specs.Rearranged.{IsRearranged, NoOrderMatters}
use Rattle.spdx_gate.proofs.Once.{verdict_means}

holds_join : (h : Requirement → Bool) (o : Operator) (l r : Tree) → holds h (Join o l r) ≡ joined o (holds h l) (holds h r)
holds_join h o l r =
    let n = length (leaves l) in
    let ls = map h (leaves l) in
    let rs = map h (leaves r) in
    let len : length ls ≡ n = length-map (leaves l) h in
    let split : map h (leaves l ++ leaves r) ≡ ls ++ rs = map-append h (leaves l) (leaves r) in
    let left : take n (ls ++ rs) ≡ ls = take-append-le n ls rs (omega (arith, len)) ∙ take_all n ls (omega (arith, len)) in
    let right : drop n (ls ++ rs) ≡ rs = drop-append-le n ls rs (omega (arith, len)) ∙ ap (λ (z : List Bool). z ++ rs) (drop_all n ls (omega (arith, len))) in
    ap (truth_of (Join o l r)) split
    ∙ ap (λ (z : List Bool). joined o (truth_of l z) (truth_of r (drop n (ls ++ rs)))) left
    ∙ ap (λ (z : List Bool). joined o (truth_of l ls) (truth_of r z)) right

either_way : (o : Operator) (a b : Bool) → joined o a b ≡ joined o b a
either_way And true true = refl
either_way And true false = refl
either_way And false true = refl
either_way And false false = refl
either_way Or true true = refl
either_way Or true false = refl
either_way Or false true = refl
either_way Or false false = refl

however_grouped : (o : Operator) (a b c : Bool) → joined o (joined o a b) c ≡ joined o a (joined o b c)
however_grouped And true b c = refl
however_grouped And false b c = refl
however_grouped Or true b c = refl
however_grouped Or false b c = refl

-- whatever is accepted, both trees hold or none does
pub same_holds : (h : Requirement → Bool) {t u : Tree} → IsRearranged t u → holds h t ≡ holds h u
same_holds h rearranged.same = refl
same_holds h (rearranged.exchanged {o = o} {l = l} {r = r}) = holds_join h o l r ∙ either_way o (holds h l) (holds h r) ∙ sym (holds_join h o r l)
same_holds h (rearranged.regrouped {o = o} {a = a} {b = b} {c = c}) =
    holds_join h o (Join o a b) c
    ∙ ap (λ (x : Bool). joined o x (holds h c)) (holds_join h o a b)
    ∙ however_grouped o (holds h a) (holds h b) (holds h c)
    ∙ ap (joined o (holds h a)) (sym (holds_join h o b c))
    ∙ sym (holds_join h o a (Join o b c))
same_holds h (rearranged.within {o = o} {l = l} {r = r} {t = t} {u = u} left right) =
    holds_join h o l r
    ∙ ap (λ (x : Bool). joined o x (holds h r)) (same_holds h left)
    ∙ ap (joined o (holds h t)) (same_holds h right)
    ∙ sym (holds_join h o t u)
same_holds h (rearranged.turned back) = sym (same_holds h back)
same_holds h (rearranged.followed one next) = same_holds h one ∙ same_holds h next

pub same_verdict : (p : Rules) (tables : List ℕ) (t u : Tree) → IsRearranged t u → verdict_of p tables t ≡ verdict_of p tables u
same_verdict p tables t u h = ap (λ (b : Bool). verdict_by b (holds (allowed_in p []) t)) (same_holds (allowed_in p tables) h) ∙ ap (verdict_by (holds (allowed_in p tables) u)) (same_holds (allowed_in p []) h)

pub no_order : (c : Rows) (p : Rules) (tables text : List ℕ) (o : Outcome) → IsOutcome c p tables text o → NoOrderMatters c p tables text o
no_order c p tables text o h other t u means others rearranged o2 k =
    verdict_means c p tables other o2 u k others ∙ sym (same_verdict p tables t u rearranged) ∙ sym (verdict_means c p tables text o t h means)
