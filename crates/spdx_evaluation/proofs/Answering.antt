-- What evaluation gives over a closure that answers by the requirement alone.
use Rattle.std.proofs.Common.{◌≡◌, Bool, true, false, cond, List, [], ◌∷◌, map, refl, sym, ◌∙◌, ap, subst}
use Rattle.std.specs.Prelude.{not}
use Rattle.std.specs.List.{filter, zip}
use Rattle.spdx_requirement.specs.declared.requirement.LicenseReq.{LicenseReq}
use Rattle.spdx_requirement.specs.Items.{Requirement}
use Rattle.spdx_lexer.specs.Words.{Span}
use Rattle.spdx_parser.specs.Tree.{Tree, leaves}
use Rattle.spdx_evaluation.specs.ByRequirement.{AnswersBy, FailsBy}
use Rattle.spdx_evaluation.specs.Calls.{CallsGive, AsksFor, refused, Evaluates, EvaluatesToFalse}
use Rattle.spdx_evaluation.specs.Truth.{holds}
use Rattle.spdx_evaluation.specs.Truth.{truth_of}
use Rattle.spdx_evaluation.specs.Requirements.{PlacedRequirement}

-- a requirement is kept exactly if its answer is false
keeps : (b : Bool) (x : PlacedRequirement) (xs : List PlacedRequirement) (bs : List Bool) (kept : List PlacedRequirement) → refused xs bs ≡ kept → refused (x ∷ xs) (b ∷ bs) ≡ cond (not b) (x ∷ kept) kept
keeps true x xs bs kept e = e
keeps false x xs bs kept e = ap (λ (z : List PlacedRequirement). x ∷ z) e

refused_are : (h : Requirement → Bool) (rs : List Requirement) (spans : List Span) → refused (zip rs spans) (map h rs) ≡ filter (λ p. not (h p.0)) (zip rs spans)
refused_are h [] spans = refl
refused_are h (r ∷ rs) [] = refl
refused_are h (r ∷ rs) (s ∷ spans) = keeps (h r) (r, s) (zip rs spans) (map h rs) _ (refused_are h rs spans)

module _ {F : Type 0} (S : F → LicenseReq → Bool → F → Type 0) (f : F) (h : Requirement → Bool) (by : AnswersBy S f h) where
  answers_are : (s : F) → s ≡ f → (rs : List Requirement) (bs : List Bool) (g : F) → CallsGive (AsksFor S) s rs bs g → bs ≡ map h rs
  answers_are s i [] [] g e = refl
  answers_are s i (r ∷ rs) (b ∷ bs) g (k, (x, is, one), more) =
      let now = by x b k (subst (λ z. S z x b k) i one) in
      let first : b ≡ h r = now.0 ∙ ap h is in
      let others : bs ≡ map h rs = answers_are k now.1 rs bs g more in
      ap (λ (z : Bool). z ∷ bs) first ∙ ap (λ (zs : List Bool). h r ∷ zs) others
  answers_are s i [] (b ∷ bs) g e = absurd e
  answers_are s i (r ∷ rs) [] g e = absurd e

  pub holds_by : (t : Tree) (truth : Bool) (g : F) → Evaluates S f t truth g → truth ≡ holds h t
  holds_by t truth g (answers, calls, is) = is ∙ ap (truth_of t) (answers_are f refl (leaves t) answers g calls)

  pub fails_by : (t : Tree) (spans : List Span) (placed failed : List PlacedRequirement) (g : F) → placed ≡ zip (leaves t) spans → EvaluatesToFalse S f t placed failed g → FailsBy h t placed failed
  fails_by t spans placed failed g apart (answers, calls, is, failed_are) =
      let known = answers_are f refl (leaves t) answers g calls in
      let kept : refused placed (map h (leaves t)) ≡ filter (λ p. not (h p.0)) placed =
      subst (λ (z : List PlacedRequirement). refused z (map h (leaves t)) ≡ filter (λ p. not (h p.0)) z) (sym apart) (refused_are h (leaves t) spans) in
      (sym (ap (truth_of t) known) ∙ is, failed_are ∙ ap (refused placed) known ∙ kept)
