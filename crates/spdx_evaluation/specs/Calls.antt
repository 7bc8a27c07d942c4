-- Calls of a closure, one after the other.
use Rattle.std.specs.Prelude.{◌≡◌, Bool, true, false, List, [], ◌∷◌}
use Rattle.spdx_requirement.specs.declared.requirement.LicenseReq.{LicenseReq}
use Rattle.spdx_requirement.specs.Items.{Requirement, requirement_of}
use Rattle.spdx_parser.specs.Tree.{Tree, leaves}
use Rattle.spdx_evaluation.specs.Requirements.{PlacedRequirement}
use Rattle.spdx_evaluation.specs.Truth.{truth_of}

-- Called at each of xs in order, each call in the state that the one before left, a closure that
-- was in state f answered bs and was left in state g. `S f x b h` says what one call does: called
-- at x in state f, it answers b and is left in state h.
abbrev pub CallsGive : {F A R : Type 0} → (F → A → R → F → Type 0) → F → List A → List R → F →
    Type 0
CallsGive S f [] [] g = g ≡ f
CallsGive {F} S f (x ∷ xs) (b ∷ bs) g = (h : F) × S f x b h × CallsGive S h xs bs g
CallsGive S f [] (b ∷ bs) g = ⊥
CallsGive S f (x ∷ xs) [] g = ⊥

-- a call at a value that shows as the requirement r
abbrev pub AsksFor : {F : Type 0} → (F → LicenseReq → Bool → F → Type 0) → F → Requirement → Bool →
    F → Type 0
AsksFor S f r b g = (x : LicenseReq) × (requirement_of x ≡ r) × S f x b g

-- those whose answer was false, in their order
abbrev pub refused : {A : Type 0} → List A → List Bool → List A
refused [] bs = []
refused (x ∷ xs) [] = []
refused (x ∷ xs) (true ∷ bs) = refused xs bs
refused (x ∷ xs) (false ∷ bs) = x ∷ refused xs bs

-- A closure in state f was called once for each requirement of the tree, from left to right, and
-- was left in state g; the truth is that of the tree over its answers.
abbrev pub Evaluates : {F : Type 0} → (F → LicenseReq → Bool → F → Type 0) → F → Tree → Bool → F →
    Type 0
Evaluates S f t truth g =
    (answers : List Bool) × CallsGive (AsksFor S) f (leaves t) answers g ×
    (truth ≡ truth_of t answers)

-- the same where the truth is false, with every requirement of the tree, of those with their
-- places, whose answer was false
abbrev pub EvaluatesToFalse : {F : Type 0} → (F → LicenseReq → Bool → F → Type 0) → F → Tree →
    List PlacedRequirement → List PlacedRequirement → F → Type 0
EvaluatesToFalse S f t placed failed g =
    (answers : List Bool) × CallsGive (AsksFor S) f (leaves t) answers g ×
    (truth_of t answers ≡ false) × (failed ≡ refused placed answers)
