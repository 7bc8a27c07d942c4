-- What a judge of selections keeps of expressions and members.
use Rattle.std.specs.Prelude.{◌≡◌, ℕ, ◌+◌, Bool, true, false, ◌&&◌, cond, List, [], ◌∷◌, ◌++◌, length, take, drop, map, max, slice_index_or, slice_range}
use Rattle.std.specs.List.{list_any, flat_map}
use Rattle.spdx_requirement.specs.Items.{Requirement, requirement_of}
use Rattle.spdx_parser.specs.declared.node.ExprNode.{ExprNode}
use Rattle.spdx_parser.specs.Tree.{Tree, leaves}
use Rattle.spdx_licensee.specs.Satisfies.{satisfies}
use Rattle.spdx_evaluation.specs.Postfix.{tree_in}
use Rattle.spdx_evaluation.specs.Requirements.{requirements_in}
use Rattle.spdx_evaluation.specs.Truth.{truth_of}
use Rattle.spdx_minimize.specs.declared.question.Part.{Part}
use Rattle.spdx_minimize.specs.declared.nodes.TreeNodes.{TreeNodes}
use Rattle.spdx_minimize.specs.declared.question.Meeting.{Meeting}
use Rattle.spdx_minimize.specs.declared.question.Question.{Question}

-- the places, counted from k, of those that pass the test
abbrev pub places_from : {A : Type 0} → (A → Bool) → ℕ → List A → List ℕ
places_from test k [] = []
places_from test k (x ∷ xs) = cond (test x) (k ∷ []) [] ++ places_from test (k + 1) xs

-- the places of the members that satisfy a requirement
abbrev pub places : List Requirement → Requirement → List ℕ
places members r = places_from (λ m. satisfies m r) 0 members

-- the same for each requirement among some nodes
abbrev pub places_in : List Requirement → List ExprNode → List (List ℕ)
places_in members nodes = map (λ r. places members (requirement_of r.req)) (requirements_in nodes)

-- whether a selection chooses the member at one of the places
abbrev pub any_at : List Bool → List ℕ → Bool
any_at selection ks = list_any (λ k. slice_index_or selection k false) ks

-- the places for each requirement of a tree
abbrev pub leaf_places : List Requirement → Tree → List (List ℕ)
leaf_places members t = map (places members) (leaves t)

abbrev pub question_tree : Question → Tree
question_tree q = tree_in q.nodes.now

-- a part of some places
abbrev pub part_of : List ℕ → Part → List ℕ
part_of ks p = slice_range ks p.start p.end

-- the places that are kept for each requirement
abbrev pub met_by : Meeting → List (List ℕ)
met_by meeting = map (part_of meeting.places.items) meeting.parts.items

-- they are those of the members that satisfy each requirement of the trees
abbrev pub IsOver : List Requirement → List Tree → Meeting → Type 0
IsOver members trees meeting = met_by meeting ≡ flat_map (leaf_places members) trees

-- what a selection answers to the requirements of a question
abbrev pub answers : List Bool → Question → List Bool
answers selection q = map (any_at selection) (map (part_of q.places.now) q.parts.now)

-- whether a selection makes the expression true
abbrev pub answered : List Bool → Question → Bool
answered selection q = truth_of (question_tree q) (answers selection q)

-- whether every tree is true; the first takes as many answers as it has requirements
abbrev pub all_true : List Tree → List Bool → Bool
all_true [] answers = true
all_true (t ∷ ts) answers =
    truth_of t (take (length (leaves t)) answers) && all_true ts (drop (length (leaves t)) answers)

-- the nodes of the longest
abbrev pub longest : List TreeNodes → ℕ
longest [] = 0
longest (list ∷ lists) = max (length list.nodes.now) (longest lists)
