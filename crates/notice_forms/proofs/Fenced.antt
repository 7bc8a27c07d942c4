-- No text has as many backquotes side by side as its fence.
use Rattle.std.proofs.Common.{◌≡◌, ℕ, zero, suc, ◌+◌, ◌≤◌, List, [], ◌∷◌, ◌++◌, replicate, codes, sym, ap, ◌∙◌, subst, append_assoc, arith}
use Rattle.std.specs.List.{prefix_len}
use Rattle.notice_forms.specs.Markdown.{is_backquote, longest_run, StaysFenced}

run_len : (n : ℕ) (rest : List ℕ) → n + 3 ≤ prefix_len is_backquote (replicate n 96 ++ (codes "```" ++ rest))
run_len zero rest = omega arith
run_len (suc n) rest = omega (arith, run_len n rest)

within_first : (xs : List ℕ) → prefix_len is_backquote xs ≤ longest_run xs
within_first [] = omega arith
within_first (x ∷ xs) = omega arith

within : (n : ℕ) (before rest : List ℕ) → n + 3 ≤ longest_run (before ++ (replicate n 96 ++ (codes "```" ++ rest)))
within n [] rest = omega (arith, run_len n rest, within_first (replicate n 96 ++ (codes "```" ++ rest)))
within n (b ∷ before) rest = omega (arith, within n before rest)

pub stays_fenced : (text : List ℕ) → StaysFenced text
stays_fenced text before after e =
    let n = longest_run text in
    let whole : before ++ (replicate n 96 ++ (codes "```" ++ after)) ≡ text = ap (λ (xs : List ℕ). before ++ xs) (sym (append_assoc (replicate n 96) (codes "```") after)) ∙ e in
    let long : n + 3 ≤ longest_run text = subst (λ (xs : List ℕ). n + 3 ≤ longest_run xs) whole (within n before after) in
    omega (arith, long)
