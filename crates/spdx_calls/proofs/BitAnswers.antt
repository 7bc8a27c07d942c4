-- Bits that a closure hands on one after another.
use Rattle.std.proofs.Common.{◌≡◌, ℕ, ◌+◌, ◌<◌, ◌^◌, Bool, List, [], ◌∷◌, length, map, refl, sym, ap, ◌∙◌, arith}
use Rattle.std.specs.List.{range_with_len}
use Rattle.spdx_requirement.specs.declared.requirement.LicenseReq.{LicenseReq}
use Rattle.spdx_requirement.specs.Items.{Requirement}
use Rattle.spdx_parser.specs.Tree.{Tree, leaves}
use Rattle.spdx_evaluation.specs.Calls.{CallsGive, AsksFor, Evaluates}
use Rattle.spdx_evaluation.specs.Truth.{truth_of}
use denote.Ref.{Bor}
use Rattle.std.specs.Iterator.{Drains, YieldsFirstBy}
use Rattle.std.proofs.lemmas.Iterator.Consumers.{count_from_yields_List, YieldsList-from_first}
use Rattle.std.proofs.lemmas.List.{length-map}
use Rattle.std.proofs.lemmas.Slice.Zip.{firsts-zip}
use Rattle.spdx_parser.specs.declared.node.ExpressionReq.{ExpressionReq}
use Rattle.spdx_evaluation.specs.Requirements.{PlacedRequirement, placed_of}
use Rattle.spdx.specs.Iterators.{requirements_left}
use Rattle.spdx.specs.declared.expression.iterators.Requirements.{Requirements}
use Rattle.spdx.specs.Value.{Written, placed}
use Rattle.spdx_calls.specs.Bits.{is_set, first_bits}

-- a closure whose state has these bits and a number answers by the bit of that number, and counts on
abbrev pub IsAnswering : {F : Type 0} → (F → LicenseReq → Bool → F → Type 0) → List ℕ → (F → Type 0) → (F → ℕ) → Type 0
IsAnswering {F} S bits Has at = (f : F) (x : LicenseReq) (b : Bool) (g : F) → Has f → S f x b g → (b ≡ is_set bits (at f)) × Has g × (at f + 1 < 2 ^ 64 → at g ≡ at f + 1)

module _ {F : Type 0} (S : F → LicenseReq → Bool → F → Type 0) (bits : List ℕ) (Has : F → Type 0) (at : F → ℕ) (step : IsAnswering S bits Has at) where
  answers_are : (f : F) (rs : List Requirement) (bs : List Bool) (g : F) → Has f → at f + length rs < 2 ^ 64 → CallsGive (AsksFor S) f rs bs g
      → bs ≡ map (is_set bits) (range_with_len (at f) (length rs))
  answers_are f [] [] g has fits calls = refl
  answers_are f (r ∷ rs) (b ∷ bs) g has fits (k, (x, is, one), more) =
      let (met, kept, next) = step f x b k has one in
      let on : at k ≡ at f + 1 = next (omega arith) in
      let others : bs ≡ map (is_set bits) (range_with_len (at k) (length rs)) = answers_are k rs bs g kept (omega arith) more in
      ap (λ (z : Bool). z ∷ bs) met ∙ ap (λ (zs : List Bool). is_set bits (at f) ∷ zs) (others ∙ ap (λ (n : ℕ). map (is_set bits) (range_with_len n (length rs))) on)
  answers_are f [] (b ∷ bs) g has fits e = absurd e
  answers_are f (r ∷ rs) [] g has fits e = absurd e

pub truth_by_bits : {F : Type 0} {S : F → LicenseReq → Bool → F → Type 0} (f : F) (t : Tree) (truth : Bool) (g : F) → Evaluates S f t truth g
    → (bits : List ℕ) (Has : F → Type 0) (at : F → ℕ) → IsAnswering S bits Has at → Has f → at f ≡ 0 → length (leaves t) < 2 ^ 64
    → truth ≡ truth_of t (first_bits bits (length (leaves t)))
truth_by_bits {S = S} f t truth g (answers, calls, is) bits Has at step has first fits =
    is ∙ ap (truth_of t) (answers_are S bits Has at step f (leaves t) answers g has (omega arith) calls ∙ ap (λ (n : ℕ). map (is_set bits) (range_with_len n (length (leaves t)))) first)

-- as many requirements are counted as the tree has
pub counted-leaves : (e : Written) (s : Requirements) (n : ℕ) → ((xs : List (Bor ExpressionReq)) × Drains (YieldsFirstBy (λ r. placed_of r.now) requirements_left) s xs × (n ≡ length xs))
    → requirements_left s ≡ placed e → length e.spans ≡ length (leaves e.tree) → n ≡ length (leaves e.tree)
counted-leaves e s n ran all places =
    count_from_yields_List s n ran (YieldsList-from_first (λ r. placed_of r.now) requirements_left (placed e) all)
    ∙ sym (length-map (placed e) (λ (p : PlacedRequirement). p.0)) ∙ ap length (firsts-zip (leaves e.tree) e.spans places)
