-- How the answer to a line begins, by what the parser answers.
use Rattle.std.proofs.Common.{◌≡◌, ℕ, true, false, List, [], ◌∷◌, ◌++◌, map, Ok, refl, sym, ◌∙◌, ap, subst, append_assoc, codes}
use Rattle.std.specs.Prelude.{IsUtf8}
use Rattle.spdx_requirement.specs.Rows.{Rows}
use Rattle.spdx_lexer.specs.declared.token.ParseMode.{ParseMode}
use Rattle.spdx_lexer.specs.Words.{Fault, Span, Placed, words}
use Rattle.spdx_lexer.specs.Reading.{reading}
use Rattle.spdx_parser.specs.Tree.{Tree}
use Rattle.spdx_parser.specs.Grammar.{IsTheTree}
use Rattle.spdx_parser.specs.Faults.{IsFaultOf}
use Rattle.spdx_parser.specs.Meaning.{IsOfRows}
use Rattle.spdx_lines.specs.declared.lines.LineMode.{LineMode}
use Rattle.spdx_lines.specs.Verdict.{Verdict, Refused, BadUtf8, parse_mode, IsColumn, verdict_text, counts_as_refused, tree_in}
use Rattle.spdx_lines.specs.Found.{column, verdict}
use Rattle.spdx_lines.specs.Answer.{AcceptsSo, RefusesSo}
use Rattle.spdx_lines.proofs.Verdict.{IsAccepted, no_text_is, accepted_is, refused_is}

-- the line has this verdict, which is a refusal
refuses_by : (c : Rows) (mode : LineMode) (line old new : List ℕ) (v : Verdict) → verdict c mode line ≡ v → counts_as_refused v ≡ true → tree_in v ≡ [] →
    ((behind : Tree → List ℕ) → new ≡ old ++ verdict_text behind v) → RefusesSo c mode line old new
refuses_by c mode line old new v is r n w = record {
  refused = ap counts_as_refused is ∙ r;
  no_tree = ap tree_in is ∙ n;
  written = λ behind. w behind ∙ ap (λ x. old ++ verdict_text behind x) (sym is);
}

pub no_text_so : (c : Rows) (mode : LineMode) (line old new : List ℕ) → ¬ (IsUtf8 line) → new ≡ old ++ (codes "bad-utf8" ++ 10 ∷ []) → RefusesSo c mode line old new
no_text_so c mode line old new h w = refuses_by c mode line old new BadUtf8 (no_text_is c mode line h) refl refl (λ behind. w)

-- what stands behind the first two columns makes the answer whole
pub ends_so : (c : Rows) (mode : LineMode) (line old first new : List ℕ) (t : Tree) (behind : Tree → List ℕ) → AcceptsSo c mode line old first t →
    new ≡ first ++ (behind t ++ 10 ∷ []) → new ≡ old ++ verdict_text behind (verdict c mode line)
ends_so c mode line old first new t behind h e =
    e ∙ ap (λ xs. xs ++ (behind t ++ 10 ∷ [])) h.written ∙ append_assoc old (codes "accepted" ++ (9 ∷ h.column)) (behind t ++ 10 ∷ [])
    ∙ ap (λ v. old ++ verdict_text behind v) (sym h.is)

pub not_refused : (c : Rows) (mode : LineMode) (line old new : List ℕ) (t : Tree) → AcceptsSo c mode line old new t → counts_as_refused (verdict c mode line) ≡ false
not_refused c mode line old new t h = ap counts_as_refused h.is

-- a third column behind a tab
pub third : (first a b new column : List ℕ) → a ≡ first ++ 9 ∷ [] → b ≡ a ++ column → new ≡ b ++ 10 ∷ [] → new ≡ first ++ ((9 ∷ column) ++ 10 ∷ [])
third first a b new column p q r = r ∙ ap (λ xs. xs ++ 10 ∷ []) q ∙ ap (λ xs. (xs ++ column) ++ 10 ∷ []) p ∙ regroup
  where
    regroup : ((first ++ 9 ∷ []) ++ column) ++ 10 ∷ [] ≡ first ++ ((9 ∷ column) ++ 10 ∷ [])
    regroup = simp append_assoc

-- the line is read as a text in a mode: they are these
module _ (c : Rows) (mode : LineMode) (line text : List ℕ) (m : ParseMode) (same_mode : m ≡ parse_mode mode) (same : text ≡ line) (u : IsUtf8 line) where
  abbrev Parses : ParseMode → List ℕ → Tree → Type 0
  Parses x bytes t = (read : List Placed) × (reading c x 0 bytes ≡ map Ok read) × IsTheTree c x (words read) t

  known : (t : Tree) → Parses m text t → IsAccepted c mode line t
  known t h =
      let k : Parses (parse_mode mode) line t = subst (λ x. Parses x line t) same_mode (subst (λ x. Parses m x t) same h) in
      accepted_is c mode line t k.0 u k.1 k.2

  pub accepts_so : (t : Tree) → Parses m text t → IsOfRows c t → (old first new : List ℕ) → first ≡ old ++ (codes "accepted" ++ 9 ∷ []) →
      ((x : List ℕ) → IsColumn c mode text t x → new ≡ first ++ x) → AcceptsSo c mode line old new t
  accepts_so t h rows old first new e w =
      let k = known t h in
      record {
        column = column c mode line t;
        is = k.is;
        written = w (column c mode line t) (subst (λ x. IsColumn c mode x t (column c mode line t)) (sym same) k.column_is) ∙ ap (λ xs. xs ++ column c mode line t) e ∙ append_assoc old (codes "accepted" ++ 9 ∷ []) (column c mode line t);
        rows_are = rows;
      }

  pub refuses_so : (fault : Fault) (s : Span) → IsFaultOf c m text fault s → (old new : List ℕ) → ((behind : Tree → List ℕ) → new ≡ old ++ verdict_text behind (Refused fault s)) → RefusesSo c mode line old new
  refuses_so fault s h old new w =
      refuses_by c mode line old new (Refused fault s)
      (refused_is c mode line fault s u (subst (λ x. IsFaultOf c x line fault s) same_mode (subst (λ x. IsFaultOf c m x fault s) same h))) refl refl w
