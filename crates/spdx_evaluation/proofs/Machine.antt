-- The stack of truths over the nodes of a tree in postfix order.
use Rattle.std.proofs.Common.{◌≡◌, ℕ, ◌+◌, ◌-◌, ◌≤◌, Bool, false, List, [], ◌∷◌, ◌++◌, length, take, drop, refl, sym, ◌∙◌, ap, subst, arith, get_or}
use Rattle.std.proofs.lemmas.List.{append_assoc, length-append, length-drop, length-take-le, take-append-drop}
use Rattle.selections.specs.Truths.{join_newest}
use Rattle.spdx_parser.specs.Tree.{Tree, Leaf, Join, Node, Op, Req, postfix, leaves}
use Rattle.spdx_evaluation.specs.PostfixLaws.{regroup}
use Rattle.spdx_evaluation.specs.Truth.{joined, truth_of}

-- what the nodes make of a stack, over answers to the requirements among them
abbrev pub stack_behind : List Node → List Bool → List Bool → List Bool
stack_behind [] answers stack = stack
stack_behind (Req r ∷ ns) answers stack = stack_behind ns (drop 1 answers) (get_or answers 0 false ∷ stack)
stack_behind (Op o ∷ ns) answers stack = stack_behind ns answers (join_newest (joined o) stack)

-- over n truths the nodes find two for each operator, and leave one
abbrev pub LeavesOne : List Node → ℕ → Type 0
LeavesOne [] n = n ≡ 1
LeavesOne (Req r ∷ ns) n = LeavesOne ns (n + 1)
LeavesOne (Op o ∷ ns) n = (2 ≤ n) × LeavesOne ns (n - 1)

pub length-join_newest : (join : Bool → Bool → Bool) (xs : List Bool) → 2 ≤ length xs → length (join_newest join xs) ≡ length xs - 1
length-join_newest join [] h = absurd (omega arith)
length-join_newest join (x ∷ []) h = absurd (omega arith)
length-join_newest join (x ∷ y ∷ zs) h = omega arith

pub stack_behind_postfix : (t : Tree) (answers more : List Bool) (ns : List Node) (stack : List Bool) → length answers ≡ length (leaves t) → stack_behind (postfix t ++ ns) (answers ++ more) stack ≡ stack_behind ns more (truth_of t answers ∷ stack)
stack_behind_postfix (Leaf r) [] more ns stack e = absurd (omega arith)
stack_behind_postfix (Leaf r) (b ∷ []) more ns stack e = refl
stack_behind_postfix (Leaf r) (b ∷ x ∷ xs) more ns stack e = absurd (omega arith)
stack_behind_postfix (Join o l r) answers more ns stack e =
    let n = length (leaves l) in
    let all : length answers ≡ length (leaves l) + length (leaves r) = e ∙ length-append (leaves l) (leaves r) in
    let left : length (take n answers) ≡ n = length-take-le n answers (omega arith) in
    let right : length (drop n answers) ≡ length (leaves r) = omega (arith, length-drop n answers) in
    let split : answers ++ more ≡ take n answers ++ (drop n answers ++ more) =
    ap (λ (z : List Bool). z ++ more) (sym (take-append-drop n answers)) ∙ append_assoc (take n answers) (drop n answers) more in
    ap (λ (z : List Node). stack_behind z (answers ++ more) stack) (regroup o l r ns)
    ∙ ap (λ (z : List Bool). stack_behind (postfix l ++ (postfix r ++ Op o ∷ ns)) z stack) split
    ∙ stack_behind_postfix l (take n answers) (drop n answers ++ more) (postfix r ++ Op o ∷ ns) stack left
    ∙ stack_behind_postfix r (drop n answers) more (Op o ∷ ns) (truth_of l (take n answers) ∷ stack) right

pub leaves_one_postfix : (t : Tree) (ns : List Node) (n : ℕ) → LeavesOne ns (n + 1) → LeavesOne (postfix t ++ ns) n
leaves_one_postfix (Leaf r) ns n h = h
leaves_one_postfix (Join o l r) ns n h =
    let e : n + 1 ≡ n + 1 + 1 - 1 = omega arith in
    let inner : LeavesOne (Op o ∷ ns) (n + 1 + 1) = (omega arith, subst (LeavesOne ns) e h) in
    subst (λ (z : List Node). LeavesOne z n) (sym (regroup o l r ns)) (leaves_one_postfix l (postfix r ++ Op o ∷ ns) n (leaves_one_postfix r (Op o ∷ ns) (n + 1) inner))
