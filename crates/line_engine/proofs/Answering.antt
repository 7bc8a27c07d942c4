-- What is written for more lines.
use Rattle.std.proofs.Common.{◌≡◌, ℕ, List, [], ◌∷◌, ◌++◌, sym, ap, ◌∙◌, append_assoc, append-nil}
use Rattle.line_engine.specs.Rule.{Rule}
use Rattle.line_engine.specs.Output.{text_from, text_of}

text_from-append : (rule : Rule) (before xs ys : List (List ℕ)) → text_from rule before (xs ++ ys) ≡ text_from rule before xs ++ text_from rule (before ++ xs) ys
text_from-append rule before [] ys = ap (λ (lines : List (List ℕ)). text_from rule lines ys) (sym (append-nil before))
text_from-append rule before (x ∷ xs) ys =
    ap (λ (text : List ℕ). rule.text before x ++ text) (text_from-append rule (before ++ x ∷ []) xs ys)
    ∙ sym (append_assoc (rule.text before x) (text_from rule (before ++ x ∷ []) xs) (text_from rule ((before ++ x ∷ []) ++ xs) ys))
    ∙ ap (λ (lines : List (List ℕ)). text_from rule before (x ∷ xs) ++ text_from rule lines ys) (append_assoc before (x ∷ []) xs)

-- the answers to the later lines see the earlier ones
pub text_of-append : (rule : Rule) (xs ys : List (List ℕ)) → text_of rule (xs ++ ys) ≡ text_of rule xs ++ text_from rule xs ys
text_of-append rule xs ys = text_from-append rule [] xs ys

pub text_of-one : (rule : Rule) (lines : List (List ℕ)) (line : List ℕ) → text_of rule (lines ++ line ∷ []) ≡ text_of rule lines ++ rule.text lines line
text_of-one rule lines line = text_of-append rule lines (line ∷ []) ∙ ap (λ (xs : List ℕ). text_of rule lines ++ xs) (append-nil (rule.text lines line))
