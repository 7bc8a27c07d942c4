-- Two reports that the definition allows say the same.
use Rattle.std.proofs.Common.{◌≡◌, inl, inr, ℕ, List, [], ◌∷◌, Option, Some, None, length, map, sym, ◌∙◌, ap, subst}
use Rattle.std.specs.Prelude.{slice_get, string_bytes, All}
use Rattle.std.specs.List.{AllZip}
use Rattle.std.proofs.lemmas.List.Elements.{All-get_or}
use Rattle.std.proofs.lemmas.Option.{slice_get_within, get_or_from_slice_get}
use Rattle.spdx_requirement.specs.Rows.{Rows}
use Rattle.spdx_lexer.specs.Code.{span_of}
use Rattle.spdx_lexer.specs.Faults.{fault_of}
use Rattle.spdx_lexer.specs.Words.{Fault, Span}
use Rattle.spdx_parser.specs.Last.{Due}
use Rattle.spdx_parser.specs.Spans.{license_spans}
use Rattle.spdx_parser.specs.Tree.{Tree, leaves}
use Rattle.spdx_parser.proofs.Loop.{same_words}
use Rattle.spdx_parser.proofs.OneFault.{one_fault}
use Rattle.spdx_policy.specs.Decisions.{decision_of}
use Rattle.spdx_policy.specs.Rules.{NamedRow, Rules}
use Rattle.spdx_why.specs.Least.{Choice, chosen, unmet, too_many}
use Rattle.spdx_why.specs.Serving.{choice_among}
use Rattle.spdx_gate.specs.declared.advice.Advice.{Advice}
use Rattle.spdx_gate.specs.declared.advice.Advice.TheVariants as advice
use Rattle.spdx_gate.specs.declared.judgement.Outcome.{Outcome}
use Rattle.spdx_gate.specs.declared.judgement.Outcome.TheVariants as outcome
use Rattle.spdx_gate.specs.declared.judgement.Judgement.{Judgement}
use Rattle.spdx_gate.specs.declared.package.Package.{Package}
use Rattle.spdx_gate.specs.declared.package.Verdict.{Verdict}
use Rattle.spdx_gate.specs.declared.report.Row.{Row}
use Rattle.spdx_gate.specs.declared.report.Report.{Report}
use Rattle.spdx_gate.specs.Advising.{Advises, IsAdvised, offered_texts, serving_of, wanted_in, ways_in}
use Rattle.spdx_gate.specs.Allowing.{allowed_in}
use Rattle.spdx_gate.specs.Judging.{mode_of, verdict_of, IsOutcome}
use Rattle.spdx_gate.specs.Reports.{tables_of, text_of, IsVerdictOfText, IsOf, IsRight, IsPlaceOf, IsRow, IsReport}
use Rattle.spdx_gate.specs.OneReport.{IsSameAdvice, IsSameOutcome, IsSameJudgement, IsSamePlace, IsSameRow, IsSameReport}
use Rattle.spdx_gate.proofs.Once.{means_once, means_some}
use Rattle.spdx_gate.proofs.Normal.{alike}
use Rattle.spdx_gate.proofs.Offers.{entries_once}

-- ---- one advice

advised_alike : (offers : List NamedRow) (a b : Advice) (c d : Choice) → c ≡ d → Advises offers a c → Advises offers b d → IsSameAdvice a b
advised_alike offers (advice.Allow texts) (advice.Allow others) (chosen xs) (chosen ys) same h k = h ∙ ap (offered_texts offers) (let e : xs ≡ ys = cc in e) ∙ sym k
advised_alike offers (advice.Allow texts) (advice.Allow others) (chosen xs) unmet same h k = absurd k
advised_alike offers (advice.Allow texts) (advice.Allow others) (chosen xs) (too_many n) same h k = absurd k
advised_alike offers (advice.Allow texts) b unmet d same h k = absurd h
advised_alike offers (advice.Allow texts) b (too_many n) d same h k = absurd h
advised_alike offers (advice.Allow texts) advice.Unmet (chosen xs) d same h k = absurd (cc)
advised_alike offers (advice.Allow texts) (advice.TooMany n) (chosen xs) d same h k = absurd (cc)
advised_alike offers advice.Unmet (advice.Allow texts) c (chosen xs) same h k = absurd (cc)
advised_alike offers advice.Unmet (advice.Allow texts) c unmet same h k = absurd k
advised_alike offers advice.Unmet (advice.Allow texts) c (too_many n) same h k = absurd k
advised_alike offers advice.Unmet advice.Unmet c d same h k = tt
advised_alike offers advice.Unmet (advice.TooMany n) c d same h k = absurd (cc)
advised_alike offers (advice.TooMany n) (advice.Allow texts) c (chosen xs) same h k = absurd (cc)
advised_alike offers (advice.TooMany n) (advice.Allow texts) c unmet same h k = absurd k
advised_alike offers (advice.TooMany n) (advice.Allow texts) c (too_many m) same h k = absurd k
advised_alike offers (advice.TooMany n) advice.Unmet c d same h k = absurd (cc)
advised_alike offers (advice.TooMany n) (advice.TooMany m) c d same h k = cc

same_advice : (p : Rules) (tables : List ℕ) (t : Tree) (a b : Advice) → IsAdvised p tables t a → IsAdvised p tables t b → IsSameAdvice a b
same_advice p tables t a b h k =
    let same : k.offers ≡ h.offers = entries_once p (wanted_in p tables t) k.offers h.offers k.are_offers h.are_offers in
    advised_alike h.offers a b
    (choice_among t (map (allowed_in p tables) (leaves t)) (serving_of p tables h.offers (ways_in p t)) (length h.offers))
    (choice_among t (map (allowed_in p tables) (leaves t)) (serving_of p tables k.offers (ways_in p t)) (length k.offers))
    (ap (λ (ns : List NamedRow). choice_among t (map (allowed_in p tables) (leaves t)) (serving_of p tables ns (ways_in p t)) (length ns)) (sym same))
    h.advises
    (subst (λ (ns : List NamedRow). Advises ns b (choice_among t (map (allowed_in p tables) (leaves t)) (serving_of p tables k.offers (ways_in p t)) (length k.offers))) same k.advises)

module _ (c : Rows) (p : Rules) where
  -- ---- one text

  same_outcome : (tables text : List ℕ) (o u : Outcome) → IsOutcome c p tables text o → IsOutcome c p tables text u → IsSameOutcome o u
  same_outcome tables text (outcome.Judged j) (outcome.Judged k) h i =
      let read : h.parsed.read ≡ i.parsed.read = same_words h.parsed.read i.parsed.read (sym h.parsed.reads ∙ i.parsed.reads) in
      let same : h.parsed.tree ≡ i.parsed.tree =
      means_once c (mode_of p) text h.parsed.tree i.parsed.tree (h.parsed.read, h.parsed.reads, h.parsed.meant) (i.parsed.read, i.parsed.reads, i.parsed.meant) in (
        alike p p tables tables h.parsed.tree i.parsed.tree j k h.parsed.nodes_are i.parsed.nodes_are same h.decided i.decided
            (h.decided.decisions_are ∙ ap (λ (z : Tree). map (decision_of p tables) (leaves z)) same ∙ sym i.decided.decisions_are)
            (ap (verdict_of p tables) same),
        same_advice p tables i.parsed.tree j.advice k.advice (subst (λ (t : Tree). IsAdvised p tables t j.advice) same h.decided.advice_is) i.decided.advice_is,
        h.parsed.spans_are ∙ ap (license_spans Due) read ∙ sym i.parsed.spans_are,
      )
  same_outcome tables text (outcome.Judged j) (outcome.Unreadable g) h i = i.no_tree h.parsed.read h.parsed.tree h.parsed.reads h.parsed.meant.derived
  same_outcome tables text (outcome.Unreadable f) (outcome.Judged k) h i = h.no_tree i.parsed.read i.parsed.tree i.parsed.reads i.parsed.meant.derived
  same_outcome tables text (outcome.Unreadable f) (outcome.Unreadable g) h i =
      let same = one_fault c (mode_of p) text (fault_of f.reason) (fault_of g.reason) (span_of f.span) (span_of g.span) h.fault_is i.fault_is in
      (ap (λ (x : Fault × Span). x.0) same, ap (λ (x : Fault × Span). x.1) same)

  right_of : (tables text : List ℕ) (j : Judgement) → IsOf tables text j → IsRight c p j → IsOutcome c p tables text j.outcome
  right_of tables text j is_of right =
      subst (λ (t : List ℕ). IsOutcome c p tables t j.outcome) is_of.text_is (subst (λ (z : List ℕ). IsOutcome c p z (string_bytes j.text) j.outcome) is_of.exceptions_are right)

  same_judgement : (tables text : List ℕ) (j k : Judgement) → IsOf tables text j → IsOf tables text k → IsRight c p j → IsRight c p k → IsSameJudgement j k
  same_judgement tables text j k h i right good = record {
    text_is = h.text_is ∙ sym i.text_is;
    exceptions_are = h.exceptions_are ∙ sym i.exceptions_are;
    outcome_is = same_outcome tables text j.outcome k.outcome (right_of tables text j h right) (right_of tables text k i good);
  }

  same_verdict : (tables : List ℕ) (text : Option (List ℕ)) (v w : Verdict) → IsVerdictOfText c p tables text v → IsVerdictOfText c p tables text w → v ≡ w
  same_verdict tables None v w h k = h ∙ sym k
  same_verdict tables (Some text) v w (inl h) (inl k) = h.1 ∙ sym k.1
  same_verdict tables (Some text) v w (inl h) (inr k) = absurd (means_some c (mode_of p) text k.0 k.1 h.0)
  same_verdict tables (Some text) v w (inr h) (inl k) = absurd (means_some c (mode_of p) text h.0 h.1 k.0)
  same_verdict tables (Some text) v w (inr h) (inr k) = h.2 ∙ ap (verdict_of p tables) (means_once c (mode_of p) text h.0 k.0 h.1 k.1) ∙ sym k.2

  -- ---- rows

  module _ (js ks : List Judgement) (right : All (IsRight c p) js) (good : All (IsRight c p) ks) where
    right_at : (hs : List Judgement) → All (IsRight c p) hs → (i : ℕ) (j : Judgement) → slice_get hs i ≡ Some j → IsRight c p j
    right_at hs all i j there = subst (IsRight c p) (get_or_from_slice_get hs i j j there) (All-get_or (IsRight c p) hs i j (slice_get_within hs i j there) all)

    same_place : (tables : List ℕ) (text : Option (List ℕ)) (a b : Option ℕ) → IsPlaceOf js tables text a → IsPlaceOf ks tables text b → IsSamePlace js ks a b
    same_place tables None None None h k = tt
    same_place tables None None (Some i) h k = absurd (cc)
    same_place tables None (Some i) b h k = absurd (cc)
    same_place tables (Some text) None b h k = absurd h
    same_place tables (Some text) (Some i) None h k = absurd k
    same_place tables (Some text) (Some i) (Some n) h k = record {
      one = h.judgement;
      other = k.judgement;
      one_there = h.there;
      other_there = k.there;
      same = same_judgement tables text h.judgement k.judgement h.is_of k.is_of (right_at js right i h.judgement h.there) (right_at ks good n k.judgement k.there);
    }

    same_row : (x : Package) (one other : Row) → IsRow c p js x one → IsRow c p ks x other → IsSameRow js ks one other
    same_row x one other h k = record {
      verdict_is = same_verdict (tables_of p x) (text_of p x) one.verdict other.verdict h.verdict k.verdict;
      exceptions_are = h.exceptions ∙ sym k.exceptions;
      clarification_is = h.clarification ∙ sym k.clarification;
      judgement_is = same_place (tables_of p x) (text_of p x) one.judgement other.judgement h.judgement k.judgement;
    }

    same_rows : (xs : List Package) (rows others : List Row) → AllZip (IsRow c p js) xs rows → AllZip (IsRow c p ks) xs others → AllZip (IsSameRow js ks) rows others
    same_rows [] [] [] h k = tt
    same_rows [] [] (s ∷ others) h k = absurd k
    same_rows [] (r ∷ rows) others h k = absurd h
    same_rows (x ∷ xs) [] others h k = absurd h
    same_rows (x ∷ xs) (r ∷ rows) [] h k = absurd k
    same_rows (x ∷ xs) (r ∷ rows) (s ∷ others) h k = (same_row x r s h.0 k.0, same_rows xs rows others h.1 k.1)

pub one_report : (c : Rows) (p : Rules) (xs : List Package) (one other : Report) → IsReport c p xs one → IsReport c p xs other → IsSameReport one other
one_report c p xs one other h k = same_rows c p one.judgements.items other.judgements.items h.right k.right xs one.rows.items other.rows.items h.rows k.rows
