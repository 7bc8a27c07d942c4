-- A closure's calls beside a list of what it refused.
use Rattle.std.proofs.Common.{◌≡◌, ℕ, ◌≤◌, Bool, true, false, List, [], ◌∷◌, ◌++◌, length, map, refl, sym, ◌∙◌, ap}
use Rattle.std.proofs.lemmas.List.{append_assoc, append-nil}
use Rattle.spdx_requirement.specs.declared.requirement.LicenseReq.{LicenseReq}
use Rattle.selections.specs.Truths.{Stack}
use Rattle.spdx_parser.specs.declared.node.ExpressionReq.{ExpressionReq}
use Rattle.spdx_parser.specs.declared.node.ExprNode.{ExprNode}
use Rattle.spdx_parser.specs.Tree.{Tree, postfix, node_of}
use Rattle.spdx_evaluation.specs.Requirements.{placed_of, requirements_in, placed_in, kept_if_false}
use Rattle.spdx_evaluation.specs.Calls.{CallsGive, EvaluatesToFalse, refused}
use Rattle.spdx_evaluation.proofs.Evaluating.{Evaluating, Evaluated, finishes, asks_of_tree, CallsOn}

-- a call beside a list that keeps what was refused
pub record Logs {F A : Type 0} (S : F → A → Bool → F → Type 0) (f : F × List A) (x : A) (b : Bool) (g : F × List A) : Type 0 where
  pub called : S f.0 x b g.0
  pub log : g.1 ≡ kept_if_false f.1 x b

logs_calls : {F A : Type 0} (S : F → A → Bool → F → Type 0) (f : F × List A) (xs : List A) (bs : List Bool) (g : F × List A) → CallsGive (Logs S) f xs bs g → CallsGive S f.0 xs bs g.0
logs_calls S f [] [] g e = ap (λ z. z.0) e
logs_calls S f (x ∷ xs) (b ∷ bs) g (h, one, more) = (h.0, one.called, logs_calls S h xs bs g more)
logs_calls S f [] (b ∷ bs) g e = absurd e
logs_calls S f (x ∷ xs) [] g e = absurd e

logs_refused : {F A : Type 0} (S : F → A → Bool → F → Type 0) (f : F × List A) (xs : List A) (bs : List Bool) (g : F × List A) → CallsGive (Logs S) f xs bs g → g.1 ≡ f.1 ++ refused xs bs
logs_refused S f [] [] g e = ap (λ z. z.1) e ∙ sym (append-nil f.1)
logs_refused S f (x ∷ xs) (true ∷ bs) g (h, one, more) = logs_refused S h xs bs g more ∙ ap (λ z. z ++ refused xs bs) one.log
logs_refused S f (x ∷ xs) (false ∷ bs) g (h, one, more) = logs_refused S h xs bs g more ∙ ap (λ z. z ++ refused xs bs) one.log ∙ append_assoc f.1 (x ∷ []) (refused xs bs)
logs_refused S f [] (b ∷ bs) g e = absurd e
logs_refused S f (x ∷ xs) [] g e = absurd e

refused-map : {A B : Type 0} (h : A → B) (xs : List A) (bs : List Bool) → map h (refused xs bs) ≡ refused (map h xs) bs
refused-map h [] bs = refl
refused-map h (x ∷ xs) [] = refl
refused-map h (x ∷ xs) (true ∷ bs) = refused-map h xs bs
refused-map h (x ∷ xs) (false ∷ bs) = ap (λ z. h x ∷ z) (refused-map h xs bs)

-- what evaluation with a log says
pub record Logged {F : Type 0} (S : F → LicenseReq → Bool → F → Type 0) (f : F) (nodes : List ExprNode) (t : Tree) (g : F) (failed : List ExpressionReq) (truth : Bool) : Type 0 where
  pub evaluated : Evaluated (CallsOn S) f nodes t g truth
  pub failures : map placed_of failed ≡ refused (placed_in nodes) evaluated.answers

pub finishes_log : {F : Type 0} (S : F → LicenseReq → Bool → F → Type 0) (f g : F) (failed : List ExpressionReq) (nodes : List ExprNode) (i : ℕ) (s : Stack) (truth : Bool) (rest : List Bool) (t : Tree)
    → Evaluating (Logs (CallsOn S)) (f, []) (g, failed) nodes i s → length nodes ≤ i → s.items ≡ truth ∷ rest → map node_of nodes ≡ postfix t → Logged S f nodes t g failed truth
finishes_log S f g failed nodes i s truth rest t v le items tree =
    let done = finishes (Logs (CallsOn S)) (f, []) (g, failed) nodes i s truth rest t v le items tree in
    record {
      evaluated = record {
        answers = done.answers;
        calls = logs_calls (CallsOn S) (f, []) (requirements_in nodes) done.answers (g, failed) done.calls;
        value = done.value;
      };
      failures =
          ap (λ (z : List ExpressionReq). map placed_of z) (logs_refused (CallsOn S) (f, []) (requirements_in nodes) done.answers (g, failed) done.calls)
          ∙ refused-map placed_of (requirements_in nodes) done.answers;
    }

-- as callers are told it
pub fails : {F : Type 0} (S : F → LicenseReq → Bool → F → Type 0) (f g : F) (failed : List ExpressionReq) (nodes : List ExprNode) (truth : Bool) (t : Tree)
    → map node_of nodes ≡ postfix t → truth ≡ false → Logged S f nodes t g failed truth → EvaluatesToFalse S f t (placed_in nodes) (map placed_of failed) g
fails S f g failed nodes truth t tree is_false v =
    (v.evaluated.answers, asks_of_tree S f g nodes t v.evaluated.answers tree v.evaluated.calls, sym v.evaluated.value ∙ is_false, v.failures)
