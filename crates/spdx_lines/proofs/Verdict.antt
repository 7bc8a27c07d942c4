-- The verdict that is found is the one that the definitions give.
use Rattle.std.proofs.Common.{◌≡◌, ℕ, Bool, true, false, cond, List, [], map, Ok, Err, refl, sym, ◌∙◌, ap}
use Rattle.std.specs.Prelude.{unwrap_or, IsUtf8}
use Rattle.std.specs.Str.{is_utf8}
use Rattle.std.specs.Result.{result_ok}
use Rattle.std.proofs.lemmas.Str.{IsUtf8-from_is_utf8, is_utf8-from_IsUtf8}
use Rattle.spdx_requirement.specs.Rows.{Rows}
use Rattle.spdx_lexer.specs.Words.{Fault, Span, Placed, words}
use Rattle.spdx_lexer.specs.Reading.{reading}
use Rattle.spdx_parser.specs.Tree.{Tree}
use Rattle.spdx_parser.specs.Grammar.{IsTheTree}
use Rattle.spdx_parser.specs.Faults.{IsFaultOf}
use Rattle.spdx_canonical.specs.Canonical.{canonical_text, canonical_of}
use Rattle.spdx_lines.specs.declared.lines.LineMode.{LineMode}
use Rattle.spdx_lines.specs.declared.lines.LineMode.TheVariants.{Strict, Lax, Normal}
use Rattle.spdx_evaluation.specs.Outcome.{Outcome, outcome}
use Rattle.spdx_lines.specs.Verdict.{Verdict, Accepted, Refused, BadUtf8, parse_mode, IsVerdict, is_accepted, is_refused, is_no_text, IsTheVerdict, IsColumn}
use Rattle.spdx_lines.specs.Found.{column, verdict_of, verdict}
use Rattle.spdx_evaluation.proofs.Outcome.{Means, outcome_means, tree_found, fault_found}
use Rattle.spdx_lines.proofs.Laxer.{canonical_found}

-- a line has one second column
column_found : (c : Rows) (mode : LineMode) (line : List ℕ) (t : Tree) (text : List ℕ) → IsColumn c mode line t text → column c mode line t ≡ text
column_found c Strict line t text k = ap (λ x. unwrap_or (result_ok x) []) k
column_found c Lax line t text k = ap (λ x. unwrap_or (result_ok x) []) k
column_found c Normal line t text k = sym k

column_is : (c : Rows) (mode : LineMode) (line : List ℕ) (t : Tree) (canonical : List ℕ) → canonical_of c line ≡ Ok canonical → IsColumn c mode line t (column c mode line t)
column_is c Strict line t canonical k = k ∙ ap (λ x. Ok (unwrap_or (result_ok x) [])) (sym k)
column_is c Lax line t canonical k = k ∙ ap (λ x. Ok (unwrap_or (result_ok x) [])) (sym k)
column_is c Normal line t canonical k = refl

module _ (c : Rows) (mode : LineMode) (line : List ℕ) where
  abbrev seen : Bool → (Tree → List ℕ) → Outcome → Verdict
  seen b columns o = cond b (verdict_of columns o) BadUtf8

  no_text : (b : Bool) → is_utf8 line ≡ b → ¬ (IsUtf8 line) → b ≡ false
  no_text true e h = absurd (h (IsUtf8-from_is_utf8 line e))
  no_text false e h = refl

  pub only : (v : Verdict) → IsVerdict c mode line v → v ≡ verdict c mode line
  unfolding verdict
  only _ (is_accepted read t text u r d k) =
      sym (ap (λ b. seen b (column c mode line) (outcome c (parse_mode mode) line)) (is_utf8-from_IsUtf8 line u)
      ∙ ap (λ o. seen true (column c mode line) o) (tree_found c (parse_mode mode) line read t r d.derived)
      ∙ ap (λ x. Accepted t x) (column_found c mode line t text k))
  only _ (is_refused fault s u h) =
      sym (ap (λ b. seen b (column c mode line) (outcome c (parse_mode mode) line)) (is_utf8-from_IsUtf8 line u)
      ∙ ap (λ o. seen true (column c mode line) o) (fault_found c (parse_mode mode) line fault s h))
  only _ (is_no_text h) = sym (ap (λ b. seen b (column c mode line) (outcome c (parse_mode mode) line)) (no_text (is_utf8 line) refl h))

  given_by : (b : Bool) → is_utf8 line ≡ b → (o : Outcome) → Means c (parse_mode mode) line o → IsVerdict c mode line (seen b (column c mode line) o)
  given_by false e o h = is_no_text (λ u. let yes = is_utf8-from_IsUtf8 line u in cc)
  given_by true e (Err fault) h = is_refused fault.0 fault.1 (IsUtf8-from_is_utf8 line e) h
  given_by true e (Ok t) h =
      is_accepted h.0 t (column c mode line t) (IsUtf8-from_is_utf8 line e) h.1 h.2 (column_is c mode line t _ (canonical_found c mode line h.0 t h.1 h.2.derived))

  pub given : IsVerdict c mode line (verdict c mode line)
  unfolding verdict
  given = given_by (is_utf8 line) refl (outcome c (parse_mode mode) line) (outcome_means c (parse_mode mode) line)

  pub the_verdict : IsTheVerdict c mode line (verdict c mode line)
  the_verdict = record { given = given; only = only }

  pub no_text_is : ¬ (IsUtf8 line) → verdict c mode line ≡ BadUtf8
  no_text_is h = sym (only BadUtf8 (is_no_text h))

  pub refused_is : (fault : Fault) (s : Span) → IsUtf8 line → IsFaultOf c (parse_mode mode) line fault s → verdict c mode line ≡ Refused fault s
  refused_is fault s u h = sym (only (Refused fault s) (is_refused fault s u h))

  -- what is known of an accepted line
  pub record IsAccepted (t : Tree) : Type 0 where
    pub canonical : List ℕ
    pub written : canonical_of c line ≡ Ok canonical
    pub column_is : IsColumn c mode line t (column c mode line t)
    pub is : verdict c mode line ≡ Accepted t (column c mode line t)

  pub accepted_is : (t : Tree) (read : List Placed) → IsUtf8 line → reading c (parse_mode mode) 0 line ≡ map Ok read → IsTheTree c (parse_mode mode) (words read) t → IsAccepted t
  accepted_is t read u r d =
      let k = canonical_found c mode line read t r d.derived in
      let h = column_is c mode line t _ k in
      record { canonical = canonical_text (words read); written = k; column_is = h; is = sym (only _ (is_accepted read t (column c mode line t) u r d h)) }
