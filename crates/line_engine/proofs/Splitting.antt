-- The lines of two pieces, of which the first ends behind a newline, are those of the one and then those of the other.
use Rattle.std.proofs.Common.{◌≡◌, ℕ, ◌+◌, nat_eq, Bool, true, false, cond, List, [], ◌∷◌, ◌++◌, inl, inr, length, length-append, refl, sym, ap, ◌∙◌, append_assoc, append-nil, arith}
use Rattle.std.specs.Prelude.{count_by}
use Rattle.std.proofs.lemmas.Grind.{common_steps}
use Rattle.line_engine.specs.Rule.{Rule}
use Rattle.line_engine.specs.Lines.{Cut, cut, onto_first, last_line, lines_of}
use Rattle.line_engine.proofs.Byte.{before_cut}
use Rattle.line_engine.specs.Output.{text_from, text_of, output_of}
use Rattle.line_engine.specs.Pieces.{EndsLine, SplitsAtLines}
use Rattle.line_engine.proofs.Answering.{text_of-append}
use Rattle.line_engine.proofs.Cutting.{cut-newline}

-- more lines before a cut
abbrev behind : List (List ℕ) → Cut → Cut
behind lines c = record { whole = lines ++ c.whole; rest = c.rest }

onto-rest : (x : ℕ) (whole : List (List ℕ)) (rest : List ℕ) → (onto_first x whole rest).rest ≡ [] → rest ≡ []
onto-rest x [] rest e = absurd cc
onto-rest x (line ∷ lines) rest e = e

before-rest : (x : ℕ) (c : Cut) → (before_cut x c).rest ≡ [] → c.rest ≡ []
before-rest x c =
    elim (nat_eq x 10) as (λ t. (cond t (record { whole = [] ∷ c.whole; rest = c.rest }) (onto_first x c.whole c.rest)).rest ≡ [] → c.rest ≡ [])
    [ true ↦ λ e. e | false ↦ onto-rest x c.whole c.rest ]

onto-behind : (x : ℕ) (lines : List (List ℕ)) (rest : List ℕ) (c : Cut) → (onto_first x lines rest).rest ≡ [] → onto_first x (lines ++ c.whole) c.rest ≡ behind (onto_first x lines rest).whole c
onto-behind x [] rest c e = absurd cc
onto-behind x (line ∷ lines) rest c e = refl

before-behind : (x : ℕ) (d c : Cut) → (before_cut x d).rest ≡ [] → before_cut x (behind d.whole c) ≡ behind (before_cut x d).whole c
before-behind x d c =
    elim (nat_eq x 10) as (λ t. (cond t (record { whole = [] ∷ d.whole; rest = d.rest }) (onto_first x d.whole d.rest)).rest ≡ [] →
    cond t (record { whole = [] ∷ (d.whole ++ c.whole); rest = c.rest }) (onto_first x (d.whole ++ c.whole) c.rest) ≡ behind (cond t (record { whole = [] ∷ d.whole; rest = d.rest }) (onto_first x d.whole d.rest)).whole c)
    [ true ↦ λ e. refl | false ↦ onto-behind x d.whole d.rest c ]

cut-behind : (a b : List ℕ) → (cut a).rest ≡ [] → cut (a ++ b) ≡ behind (cut a).whole (cut b)
cut-behind [] b e = refl
cut-behind (x ∷ a) b e = ap (before_cut x) (cut-behind a b (before-rest x (cut a) e)) ∙ before-behind x (cut a) (cut b) e

no_rest : (a : List ℕ) → EndsLine a → (cut a).rest ≡ []
no_rest a (inl e) = ap (λ (xs : List ℕ). (cut xs).rest) e
no_rest a (inr h) = ap (λ (xs : List ℕ). (cut xs).rest) h.1 ∙ ap (λ (c : Cut). c.rest) (cut-newline h.0)

lines_of-behind : (a b : List ℕ) → EndsLine a → lines_of (a ++ b) ≡ lines_of a ++ lines_of b
lines_of-behind a b h =
    let none = no_rest a h in
    ap (λ (c : Cut). c.whole ++ last_line c.rest) (cut-behind a b none)
    ∙ append_assoc (cut a).whole (cut b).whole (last_line (cut b).rest)
    ∙ ap (λ (lines : List (List ℕ)). lines ++ lines_of b) (sym (ap (λ (xs : List ℕ). (cut a).whole ++ last_line xs) none ∙ append-nil (cut a).whole))

count_by-append : {A : Type 0} (p : A → Bool) (xs ys : List A) → count_by p (xs ++ ys) ≡ count_by p xs + count_by p ys
count_by-append p xs ys = grind (arith, common_steps)

-- a rule whose answers don't look back: whatever lines stand before it, a line is answered as the first is
abbrev pub AnswersAlone : Rule → Type 0
AnswersAlone rule = (before : List (List ℕ)) (line : List ℕ) → rule.text before line ≡ rule.text [] line

module _ (rule : Rule) (alone : AnswersAlone rule) (none : (lines : List (List ℕ)) → rule.closing lines ≡ []) where
  from_first : (before lines : List (List ℕ)) → text_from rule before lines ≡ text_of rule lines
  from_first before [] = refl
  from_first before (line ∷ lines) =
      ap (λ (text : List ℕ). text ++ text_from rule (before ++ line ∷ []) lines) (alone before line)
      ∙ ap (λ (text : List ℕ). rule.text [] line ++ text) (from_first (before ++ line ∷ []) lines ∙ sym (from_first (line ∷ []) lines))

  output_of-plain : (bytes : List ℕ) → output_of rule bytes ≡ text_of rule (lines_of bytes)
  output_of-plain bytes = ap (λ (xs : List ℕ). text_of rule (lines_of bytes) ++ xs) (none (lines_of bytes)) ∙ append-nil (text_of rule (lines_of bytes))

  -- such a rule that has nothing stand behind all lines
  pub splits : SplitsAtLines rule
  splits a b h =
      let e = lines_of-behind a b h in
      record {
        output =
            output_of-plain (a ++ b) ∙ ap (text_of rule) e ∙ text_of-append rule (lines_of a) (lines_of b)
            ∙ ap (λ (xs : List ℕ). text_of rule (lines_of a) ++ xs) (from_first (lines_of a) (lines_of b))
            ∙ ap (λ (xs : List ℕ). xs ++ text_of rule (lines_of b)) (sym (output_of-plain a)) ∙ ap (λ (xs : List ℕ). output_of rule a ++ xs) (sym (output_of-plain b));
        lines = ap length e ∙ length-append (lines_of a) (lines_of b);
        refused = ap (count_by rule.refuses) e ∙ count_by-append rule.refuses (lines_of a) (lines_of b);
      }
