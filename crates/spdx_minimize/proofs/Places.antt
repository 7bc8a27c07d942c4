-- The places of the members that satisfy a requirement, against the members themselves.
use Rattle.std.proofs.Common.{◌≡◌, ℕ, zero, suc, ◌+◌, ◌<◌, ◌≤◌, Bool, true, false, ◌&&◌, ◌||◌, cond, List, [], ◌∷◌, ◌++◌, ◌-◌, length, take, drop, map, refl, sym, ◌∙◌, ap, subst, arith, get_or, ◌/◌}
use native.Mathlib.Numerals.{unary_clauses}
use Rattle.std.proofs.lemmas.List.{length-map, map-append, length-append, length-drop, drop-append-le, take-append-le, drop_all, take_all, drop_more, drop-drop, take-map, drop-map, length-take-le}
use Rattle.std.specs.Prelude.{slice_range}
use Rattle.std.specs.List.{All, flat_map}
use Rattle.std.proofs.lemmas.List.Elements.{All-head, All-tail, All-same, All-push, All-weaker, All-take, All-drop}
use Rattle.spdx_requirement.specs.Items.{Requirement, requirement_of}
use Rattle.spdx_parser.specs.declared.node.ExpressionReq.{ExpressionReq}
use Rattle.spdx_parser.specs.declared.node.ExprNode.{ExprNode}
use Rattle.spdx_parser.specs.Tree.{Tree, Leaf, Join, Op, leaves, postfix, node_of}
use Rattle.spdx_evaluation.specs.Postfix.{IsPostfix, tree_in}
use Rattle.spdx_licensee.specs.Satisfies.{satisfies}
use Rattle.spdx_evaluation.specs.Requirements.{requirements_in}
use Rattle.spdx_evaluation.specs.Truth.{truth_of}
use Rattle.spdx_minimize.specs.Choice.{any_chosen, suffices_for}
use Rattle.spdx_evaluation.specs.Truth.{holds}
use Rattle.spdx_minimize.specs.declared.question.Part.{Part}
use Rattle.spdx_minimize.specs.declared.nodes.TreeNodes.{TreeNodes}
use Rattle.spdx_minimize.specs.declared.question.Meeting.{Meeting}
use Rattle.spdx_minimize.specs.declared.question.Question.{Question}
use Rattle.spdx_minimize.specs.Trees.{tree_of_nodes, trees_in}
use Rattle.spdx_minimize.specs.Places.{places_from, places, places_in, leaf_places, any_at, question_tree, part_of, met_by, IsOver, answers, all_true, longest}
use Rattle.spdx_evaluation.proofs.Nodes.{requirement_at, requirements_of_tree}

none_chosen : (ms : List Requirement) (r : Requirement) → any_chosen ms [] r ≡ false
none_chosen [] r = refl
none_chosen (m ∷ ms) r = refl

-- one member more, where the selection is read from its place on
member_at : (m : Requirement) (ms : List Requirement) (selection : List Bool) (k : ℕ) (r : Requirement) → ((get_or selection k false && satisfies m r) || any_chosen ms (drop (k + 1) selection) r) ≡ any_chosen (m ∷ ms) (drop k selection) r
member_at m ms [] zero r = none_chosen ms r
member_at m ms [] (suc k) r = simp unary_clauses (none_chosen ms r)
member_at m ms (b ∷ bs) zero r = refl
member_at m ms (b ∷ bs) (suc k) r = let e : suc k + 1 ≡ suc (k + 1) = omega arith in ap (λ (n : ℕ). (get_or bs k false && satisfies m r) || any_chosen ms (drop n (b ∷ bs)) r) e ∙ member_at m ms bs k r

-- a place more, if it counts
one_place : (selection : List Bool) (k : ℕ) (kept : Bool) (ks : List ℕ) → any_at selection (cond kept (k ∷ []) [] ++ ks) ≡ ((get_or selection k false && kept) || any_at selection ks)
one_place selection k true ks = elim (get_or selection k false) as (λ (b : Bool). (b || any_at selection ks) ≡ ((b && true) || any_at selection ks)) [ true ↦ refl | false ↦ refl ]
one_place selection k false ks = elim (get_or selection k false) as (λ (b : Bool). any_at selection ks ≡ ((b && false) || any_at selection ks)) [ true ↦ refl | false ↦ refl ]

any_from : (ms : List Requirement) (selection : List Bool) (k : ℕ) (r : Requirement) → any_at selection (places_from (λ m. satisfies m r) k ms) ≡ any_chosen ms (drop k selection) r
any_from [] selection k r = refl
any_from (m ∷ ms) selection k r =
    one_place selection k (satisfies m r) (places_from (λ m. satisfies m r) (k + 1) ms)
    ∙ ap (λ (z : Bool). (get_or selection k false && satisfies m r) || z) (any_from ms selection (k + 1) r)
    ∙ member_at m ms selection k r

-- so the places of the members that satisfy a requirement tell whether a chosen one does
pub any_place : (ms : List Requirement) (selection : List Bool) (r : Requirement) → any_at selection (places ms r) ≡ any_chosen ms selection r
any_place ms selection r = any_from ms selection 0 r

answers_same : (ms : List Requirement) (selection : List Bool) (rs : List Requirement) → map (any_at selection) (map (places ms) rs) ≡ map (any_chosen ms selection) rs
answers_same ms selection [] = refl
answers_same ms selection (r ∷ rs) = ap (λ (z : Bool). z ∷ map (any_at selection) (map (places ms) rs)) (any_place ms selection r) ∙ ap (λ (z : List Bool). any_chosen ms selection r ∷ z) (answers_same ms selection rs)

-- ---- of many trees, whose answers stand behind one another

first_ones : (xs ys : List Bool) (n : ℕ) → length xs ≡ n → take n (xs ++ ys) ≡ xs
first_ones xs ys n e = take-append-le n xs ys (omega (arith, e)) ∙ take_all n xs (omega (arith, e))

other_ones : (xs ys : List Bool) (n : ℕ) → length xs ≡ n → drop n (xs ++ ys) ≡ ys
other_ones xs ys n e = drop-append-le n xs ys (omega (arith, e)) ∙ ap (λ (z : List Bool). z ++ ys) (drop_all n xs (omega (arith, e)))

answers_each : (ms : List Requirement) (selection : List Bool) (ts : List Tree) → all_true ts (map (any_at selection) (flat_map (leaf_places ms) ts)) ≡ suffices_for ts ms selection
answers_each ms selection [] = refl
answers_each ms selection (t ∷ ts) =
    let n = length (leaves t) in
    let here = map (any_at selection) (leaf_places ms t) in
    let more = map (any_at selection) (flat_map (leaf_places ms) ts) in
    let count : length here ≡ n = length-map (leaf_places ms t) (any_at selection) ∙ length-map (leaves t) (places ms) in
    ap (λ (z : List Bool). truth_of t (take n z) && all_true ts (drop n z)) (map-append (any_at selection) (leaf_places ms t) (flat_map (leaf_places ms) ts))
    ∙ ap (λ (z : List Bool). truth_of t z && all_true ts (drop n (here ++ more))) (first_ones here more n count)
    ∙ ap (λ (z : List Bool). truth_of t here && all_true ts z) (other_ones here more n count)
    ∙ ap (λ (z : List Bool). truth_of t z && all_true ts more) (answers_same ms selection (leaves t))
    ∙ ap (λ (z : Bool). holds (any_chosen ms selection) t && z) (answers_each ms selection ts)

-- what the places answer is whether the selection suffices
pub all_answered : (ms : List Requirement) (selection : List Bool) (ts : List Tree) (meeting : Meeting) → IsOver ms ts meeting → all_true ts (map (any_at selection) (met_by meeting)) ≡ suffices_for ts ms selection
all_answered ms selection ts meeting over = ap (λ (z : List (List ℕ)). all_true ts (map (any_at selection) z)) over ∙ answers_each ms selection ts

each_place : (ms : List Requirement) (ts : List Tree) → length (flat_map (leaf_places ms) ts) ≡ length (flat_map leaves ts)
each_place ms [] = refl
each_place ms (t ∷ ts) =
    length-append (leaf_places ms t) (flat_map (leaf_places ms) ts)
    ∙ ap (λ (k : ℕ). k + length (flat_map (leaf_places ms) ts)) (length-map (leaves t) (places ms))
    ∙ ap (λ (k : ℕ). length (leaves t) + k) (each_place ms ts)
    ∙ sym (length-append (leaves t) (flat_map leaves ts))

-- one part for each requirement
pub each_part : (ms : List Requirement) (ts : List Tree) (meeting : Meeting) → IsOver ms ts meeting → length meeting.parts.items ≡ length (flat_map leaves ts)
each_part ms ts meeting over = sym (length-map meeting.parts.items (part_of meeting.places.items)) ∙ ap length over ∙ each_place ms ts

-- ---- of the tree at one place among many

length-postfix : (t : Tree) → length (postfix t) + 1 ≡ length (leaves t) + length (leaves t)
length-postfix (Leaf r) = refl
length-postfix (Join o l r) =
    omega (arith, length-append (postfix l) (postfix r ++ Op o ∷ []), length-append (postfix r) (Op o ∷ []), length-append (leaves l) (leaves r), length-postfix l, length-postfix r)

-- half of the nodes and one more are requirements
pub half_and_one : (nodes : List ExprNode) → IsPostfix (map node_of nodes) → length nodes / 2 + 1 ≡ length (leaves (tree_in nodes))
half_and_one nodes e = omega (arith, length-postfix (tree_in nodes), length-map nodes node_of, ap length e)

-- the trees from i on, where i holds these nodes
trees_from : (lists : List TreeNodes) (i : ℕ) (d : TreeNodes) → i < length lists → d ≡ get_or lists i d → trees_in (drop i lists) ≡ tree_of_nodes d ∷ trees_in (drop (i + 1) lists)
trees_from lists i d lt is = ap trees_in (drop_more lists i d lt) ∙ ap (λ (z : TreeNodes). tree_of_nodes z ∷ trees_in (drop (i + 1) lists)) (sym is)

-- the parts that are left behind one tree more
pub parts_left : (lists : List TreeNodes) (i : ℕ) (d : TreeNodes) (first n : ℕ) → i < length lists → d ≡ get_or lists i d → first + length (flat_map leaves (trees_in (drop i lists))) ≡ n
    → first + (length d.nodes.now / 2 + 1) + length (flat_map leaves (trees_in (drop (i + 1) lists))) ≡ n
parts_left lists i d first n lt is left =
    omega (
      arith,
      left,
      half_and_one d.nodes.now d.postfix,
      ap (λ (ts : List Tree). length (flat_map leaves ts)) (trees_from lists i d lt is),
      length-append (leaves (tree_of_nodes d)) (flat_map leaves (trees_in (drop (i + 1) lists))),
    )

-- the answers to one part of the parts are a part of the answers
part_answers : (selection : List Bool) (ks : List ℕ) (ps : List Part) (first next : ℕ)
    → map (any_at selection) (map (part_of ks) (slice_range ps first next)) ≡ take (next - first) (drop first (map (any_at selection) (map (part_of ks) ps)))
part_answers selection ks ps first next =
    ap (map (any_at selection)) (sym (take-map (part_of ks) (next - first) (drop first ps)) ∙ ap (take (next - first)) (sym (drop-map (part_of ks) first ps)))
    ∙ sym (take-map (any_at selection) (next - first) (drop first (map (part_of ks) ps)))
    ∙ ap (take (next - first)) (sym (drop-map (any_at selection) first (map (part_of ks) ps)))

-- the trees from i on are true where the one at i is and those behind it are
pub one_of_all : (lists : List TreeNodes) (i : ℕ) (d : TreeNodes) (selection : List Bool) (ks : List ℕ) (ps : List Part) (first next : ℕ) → i < length lists → d ≡ get_or lists i d → next ≡ first + (length d.nodes.now / 2 + 1)
    → all_true (trees_in (drop i lists)) (drop first (map (any_at selection) (map (part_of ks) ps)))
    ≡ (truth_of (tree_of_nodes d) (map (any_at selection) (map (part_of ks) (slice_range ps first next))) && all_true (trees_in (drop (i + 1) lists)) (drop next (map (any_at selection) (map (part_of ks) ps))))
one_of_all lists i d selection ks ps first next lt is e =
    let answers = map (any_at selection) (map (part_of ks) ps) in
    let n = length (leaves (tree_of_nodes d)) in
    let more = trees_in (drop (i + 1) lists) in
    let count : next - first ≡ n = omega (arith, e, half_and_one d.nodes.now d.postfix) in
    let here : take n (drop first answers) ≡ map (any_at selection) (map (part_of ks) (slice_range ps first next)) = ap (λ (k : ℕ). take k (drop first answers)) (sym count) ∙ sym (part_answers selection ks ps first next) in
    let behind : drop n (drop first answers) ≡ drop next answers = drop-drop n first answers ∙ ap (λ (k : ℕ). drop k answers) (omega (arith, e, half_and_one d.nodes.now d.postfix)) in
    ap (λ (ts : List Tree). all_true ts (drop first answers)) (trees_from lists i d lt is)
    ∙ ap (λ (z : List Bool). truth_of (tree_of_nodes d) z && all_true more (drop n (drop first answers))) here
    ∙ ap (λ (z : List Bool). truth_of (tree_of_nodes d) (map (any_at selection) (map (part_of ks) (slice_range ps first next))) && all_true more z) behind

placed_each : (ms : List Requirement) (rs : List ExpressionReq) → map (λ r. places ms (requirement_of r.req)) rs ≡ map (places ms) (map requirement_at rs)
placed_each ms [] = refl
placed_each ms (r ∷ rs) = ap (λ (z : List (List ℕ)). places ms (requirement_of r.req) ∷ z) (placed_each ms rs)

-- the places among the nodes of a tree are those of its requirements
pub places_of_tree : (ms : List Requirement) (nodes : List ExprNode) (t : Tree) → map node_of nodes ≡ postfix t → places_in ms nodes ≡ map (places ms) (leaves t)
places_of_tree ms nodes t e = placed_each ms (requirements_in nodes) ∙ ap (λ (z : List Requirement). map (places ms) z) (requirements_of_tree nodes t e)

-- one answer for each requirement
pub each_answer : (selection : List Bool) (q : Question) → length (answers selection q) ≡ length (leaves (question_tree q))
each_answer selection q = length-map (map (part_of q.places.now) q.parts.now) (any_at selection) ∙ length-map q.parts.now (part_of q.places.now) ∙ q.each

-- the answer at one place
pub answer_at : (selection : List Bool) (ks : List ℕ) (ps : List Part) (i : ℕ) (d : Part) → i < length ps → any_at selection (part_of ks (get_or ps i d)) ≡ get_or (map (any_at selection) (map (part_of ks) ps)) i false
answer_at selection ks [] i d h = absurd (omega arith)
answer_at selection ks (p ∷ ps) zero d h = refl
answer_at selection ks (p ∷ ps) (suc i) d h = answer_at selection ks ps i d (omega arith)

-- a part lies within so many places
abbrev pub IsWithin : ℕ → Part → Type 0
IsWithin n p = (p.start ≤ p.end) × (p.end ≤ n)

-- it is the same where more places follow
part_more : (ks more : List ℕ) (p : Part) → IsWithin (length ks) p → part_of (ks ++ more) p ≡ part_of ks p
part_more ks more p h =
    ap (take (p.end - p.start)) (drop-append-le p.start ks more (omega (arith, h.0, h.1)))
    ∙ take-append-le (p.end - p.start) (drop p.start ks) more (omega (arith, h.0, h.1, length-drop p.start ks))

parts_more : (ks more : List ℕ) (ps : List Part) → All (IsWithin (length ks)) ps → map (part_of (ks ++ more)) ps ≡ map (part_of ks) ps
parts_more ks more [] h = refl
parts_more ks more (p ∷ ps) h =
    ap (λ (z : List ℕ). z ∷ map (part_of (ks ++ more)) ps) (part_more ks more p (All-head (IsWithin (length ks)) p ps h))
    ∙ ap (λ (z : List (List ℕ)). part_of ks p ∷ z) (parts_more ks more ps (All-tail (IsWithin (length ks)) p ps h))

-- the places that are new are the last part
last_part : (ks more : List ℕ) (p : Part) → p.start ≡ length ks → p.end ≡ length (ks ++ more) → part_of (ks ++ more) p ≡ more
last_part ks more p start end =
    let from : drop p.start (ks ++ more) ≡ more = ap (λ (n : ℕ). drop n (ks ++ more)) start ∙ drop-append-le (length ks) ks more (omega arith) ∙ ap (λ (z : List ℕ). z ++ more) (drop_all (length ks) ks (omega arith)) in
    ap (take (p.end - p.start)) from ∙ take_all (p.end - p.start) more (omega (arith, start, end, length-append ks more))

pub one_part : (ks more new : List ℕ) (ps parts : List Part) (p : Part) → new ≡ ks ++ more → parts ≡ ps ++ p ∷ [] → p.start ≡ length ks → p.end ≡ length new → All (IsWithin (length ks)) ps
    → map (part_of new) parts ≡ map (part_of ks) ps ++ more ∷ []
one_part ks more new ps parts p longer added start end within =
    ap (λ (z : List ℕ). map (part_of z) parts) longer
    ∙ ap (map (part_of (ks ++ more))) added
    ∙ map-append (part_of (ks ++ more)) ps (p ∷ [])
    ∙ ap (λ (z : List (List ℕ)). z ++ part_of (ks ++ more) p ∷ []) (parts_more ks more ps within)
    ∙ ap (λ (z : List ℕ). map (part_of ks) ps ++ z ∷ []) (last_part ks more p start (end ∙ ap length longer))

pub each_within : (ks more new : List ℕ) (ps parts : List Part) (p : Part) → new ≡ ks ++ more → parts ≡ ps ++ p ∷ [] → p.start ≡ length ks → p.end ≡ length new → All (IsWithin (length ks)) ps
    → All (IsWithin (length new)) parts
each_within ks more new ps parts p longer added start end within =
    let grown : length ks ≤ length new = omega (arith, ap length longer, length-append ks more) in
    All-same (IsWithin (length new)) parts (ps ++ p ∷ []) added
    (All-push (IsWithin (length new)) ps p (All-weaker (IsWithin (length ks)) (IsWithin (length new)) (λ q h. (h.0, omega (arith, h.1, grown))) ps within) (omega (arith, start, end, grown), omega (arith, end)))

-- so many parts are a part for each requirement
pub one_each : (nodes : List ExprNode) → IsPostfix (map node_of nodes) → (ps : List Part) (first : ℕ) → first + (length nodes / 2 + 1) ≤ length ps → length (slice_range ps first (first + (length nodes / 2 + 1))) ≡ length (leaves (tree_in nodes))
one_each nodes e ps first le =
    let next = first + (length nodes / 2 + 1) in
    let count : next - first ≡ length (leaves (tree_in nodes)) = omega (arith, half_and_one nodes e) in
    length-take-le (next - first) (drop first ps) (omega (arith, le, length-drop first ps)) ∙ count

-- they lie where all of them lie
pub some_within : (ks ks' : List ℕ) (ps ps' : List Part) (first next : ℕ) → ks' ≡ ks → ps' ≡ ps → All (IsWithin (length ks)) ps → All (IsWithin (length ks')) (slice_range ps' first next)
some_within ks ks' ps ps' first next k p h =
    let there : All (IsWithin (length ks')) ps = subst (λ (z : List ℕ). All (IsWithin (length z)) ps) (sym k) h in
    let all : All (IsWithin (length ks')) ps' = subst (λ (z : List Part). All (IsWithin (length ks')) z) (sym p) there in
    All-take (IsWithin (length ks')) (next - first) (drop first ps') (All-drop (IsWithin (length ks')) first ps' all)

-- each list fits where the longest does
pub each_fits : (lists : List TreeNodes) (i : ℕ) (d : TreeNodes) → i < length lists → length (get_or lists i d).nodes.now ≤ longest lists
each_fits [] i d h = absurd (omega arith)
each_fits (list ∷ lists) zero d h = omega arith
each_fits (list ∷ lists) (suc i) d h = omega (arith, each_fits lists i d (omega arith))
