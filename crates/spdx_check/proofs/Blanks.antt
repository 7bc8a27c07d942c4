-- A line of white space is no expression, and any other is one.
use Rattle.std.proofs.Common.{◌≡◌, ℕ, ◌+◌, ◌-◌, ◌<◌, ◌≤◌, Bool, true, false, ◌&&◌, cond, nat_eq, List, [], ◌∷◌, ◌++◌, length, take, drop, get_or, Option, None, refl, sym, ap, ◌∙◌, inl, inr, arith}
use Rattle.std.specs.Prelude.{count_by, is_some}
use Rattle.std.specs.Char.{is_ascii_whitespace}
use Rattle.std.specs.List.{cons_option, list_all}
use Rattle.std.proofs.Math.Bool.{and-true}
use Rattle.std.proofs.lemmas.Bool.{cases_lt}
use Rattle.std.proofs.lemmas.Bool.Decides.{nat_tests}
use Rattle.std.proofs.lemmas.List.{take-append-drop, drop_more, drop_all}
use Rattle.std.proofs.lemmas.List.Elements.{filter_map-append}
use Rattle.std.proofs.lemmas.List.Folds.{list_all-append}
use Rattle.std.proofs.lemmas.List.Sums.{sum_by-cons}
use Rattle.line_engine.specs.declared.lines.Summary.{Summary}
use Rattle.line_engine.specs.Device.{Devices}
use Rattle.line_engine.specs.Lines.{cut, lines_of}
use Rattle.line_engine.specs.Output.{capped}
use Rattle.line_engine.specs.Progress.{HasRunBehind, HasWrittenBehind}
use Rattle.line_engine.specs.Rule.{Rule}
use Rattle.finding_forms.specs.declared.forms.Format.{Format}
use Rattle.spdx_check.specs.Finding.{Wrong}
use Rattle.spdx_check.specs.declared.lines.Checked.{Checked}
use Rattle.spdx_check.specs.Checking.{AreCounted, blank_count, expression_of, is_blank, is_white, finding_in_line, found_text, found_in, spot_behind, rule_by, LeavesOutWhite}

-- a carriage return at the end is white, so a line is white exactly if its expression is
ending_white : (line : List ℕ) (last : ℕ) → nat_eq (get_or line last 0) 13 ≡ true → length line ≤ last + 1 → list_all is_ascii_whitespace (drop last line) ≡ true
ending_white line last e h = elim (cases_lt last (length line)) [ inl l ↦ inside l | inr l ↦ ap (list_all is_ascii_whitespace) (drop_all last line l) ]
  where
    is_return : get_or line last 0 ≡ 13
    is_return = grind (arith, nat_tests, e)

    inside : last < length line → list_all is_ascii_whitespace (drop last line) ≡ true
    inside l =
        ap (list_all is_ascii_whitespace) (drop_more line last 0 l)
        ∙ ap (λ (b : ℕ). is_ascii_whitespace b && list_all is_ascii_whitespace (drop (last + 1) line)) is_return
        ∙ ap (list_all is_ascii_whitespace) (drop_all (last + 1) line h)

cut_white : (line : List ℕ) (t : Bool) → nat_eq (get_or line (length line - 1) 0) 13 ≡ t → is_blank (cond t (take (length line - 1) line) line) ≡ is_white line
cut_white line true e =
    let last = length line - 1 in
    sym (and-true (list_all is_ascii_whitespace (take last line)))
    ∙ ap (λ (t : Bool). list_all is_ascii_whitespace (take last line) && t) (sym (ending_white line last e (omega arith)))
    ∙ sym (list_all-append is_ascii_whitespace (take last line) (drop last line))
    ∙ ap (list_all is_ascii_whitespace) (take-append-drop last line)
cut_white line false e = refl

pub is_blank-expression : (line : List ℕ) → is_blank (expression_of line) ≡ is_white line
is_blank-expression line = cut_white line (nat_eq (get_or line (length line - 1) 0) 13) refl

module _ (finding : List ℕ → Option Wrong) where
  finding-by : (line : List ℕ) (t : Bool) → is_white line ≡ t → finding_in_line finding line ≡ cond t None (finding (expression_of line))
  finding-by line t e = ap (λ (b : Bool). cond b None (finding (expression_of line))) (is_blank-expression line ∙ e)

  found-white : (front back : List (List ℕ)) (line : List ℕ) → is_white line ≡ true → found_in finding (front ++ line ∷ back) ≡ found_in finding (front ++ back)
  found-white front back line e =
      filter_map-append (finding_in_line finding) front (line ∷ back)
      ∙ ap (λ (o : Option Wrong). found_in finding front ++ cons_option o (found_in finding back)) (finding-by line true e)
      ∙ sym (filter_map-append (finding_in_line finding) front back)

  pub leaves_out_white : (format : Format) (is_first : Bool) (file : List ℕ) → LeavesOutWhite finding (rule_by finding format is_first file)
  leaves_out_white format is_first file = record {
    text = λ before line e. ap (found_text format _ (spot_behind file before)) (finding-by line true e);
    refuses = λ line e. ap is_some (finding-by line true e);
    found = found-white;
    others = λ line e. finding-by line false e;
  }

-- ---- how many there are

blank_count-is : (lines : List (List ℕ)) → blank_count lines ≡ count_by is_white lines
blank_count-is [] = refl
blank_count-is (line ∷ lines) =
    sum_by-cons (λ (x : List ℕ). cond (is_blank (expression_of x)) 1 0) line lines
    ∙ ap (λ (t : Bool). cond t 1 0 + blank_count lines) (is_blank-expression line)
    ∙ ap (λ (n : ℕ). cond (is_white line) 1 0 + n) (blank_count-is lines)
    ∙ sym (sum_by-cons (λ (x : List ℕ). cond (is_white x) 1 0) line lines)

pub counts_white : (rule : Rule) (d : Devices) (summary : Summary) (blanks : ℕ) → HasRunBehind rule (λ lines. blanks ≡ capped (blank_count lines)) d summary
    → HasRunBehind rule (λ lines. blanks ≡ capped (count_by is_white lines)) d summary
counts_white rule d summary blanks h = record { run = h.run; known = h.known ∙ ap capped (blank_count-is (lines_of h.run.bytes)) }

-- ---- what is counted where the input fails

same_summary : (s : Summary) (lines refused : ℕ) → s.lines ≡ lines → s.refused ≡ refused → s ≡ record { lines = lines; refused = refused }
same_summary s lines refused e f =
    ap (λ (n : ℕ). record { lines = n; refused = s.refused }) e ∙ ap (λ (n : ℕ). record { lines = lines; refused = n }) f

module _ (rule : Rule) where
  -- of the lines that are answered these are the counts
  pub record AreCounts (lines blanks refused : ℕ) (answered : List (List ℕ)) : Type 0 where
    pub lines_are : lines ≡ capped (length answered)
    pub blanks_are : blanks ≡ capped (blank_count answered)
    pub refused_are : refused ≡ capped (count_by rule.refuses answered)

  counted : (c : Checked) (answered : List (List ℕ)) → AreCounts c.summary.lines c.blanks c.summary.refused answered → AreCounted rule answered c
  counted c answered h = record {
    summary = same_summary c.summary (capped (length answered)) (capped (count_by rule.refuses answered)) h.lines_are h.refused_are;
    blanks = h.blanks_are ∙ ap capped (blank_count-is answered);
  }

  pub counts_broken : (d : Devices) (c : Checked) (IsKnown : List (List ℕ) → Type 0)
      → ((answered : List (List ℕ)) → IsKnown answered → AreCounts c.summary.lines c.blanks c.summary.refused answered) → HasWrittenBehind rule IsKnown d
      → HasWrittenBehind rule (λ lines. AreCounted rule lines c) d
  counts_broken d c IsKnown known h = record { lines = h.lines; known = counted c (cut h.lines.bytes).whole (known (cut h.lines.bytes).whole h.known) }
