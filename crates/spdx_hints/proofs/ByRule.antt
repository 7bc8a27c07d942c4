-- The names of hints are those of the first rule that gives any.
use Rattle.std.proofs.Common.{◌≡◌, ◌≢◌, ℕ, true, false, cond, List, [], ◌∷◌, length, map, find, refl, sym, ◌∙◌, ap, subst, ne_eqb, arith, Option, None, Some}
use Rattle.std.specs.Prelude.{not, ◌==◌}
use Rattle.std.specs.Option.{option_map_or}
use Rattle.std.proofs.lemmas.List.{length-map}
use Rattle.spdx_requirement.specs.Rows.{Rows, LicenseRow, ImpreciseRow, license_name}
use Rattle.spdx_hints.specs.declared.rule.Rule.{Rule}
use Rattle.spdx_hints.specs.Rules.{spellings}
use Rattle.spdx_hints.specs.Plain.{plain_of}
use Rattle.spdx_hints.specs.Hints.{given_by, can_mean, meant_by, means_by, names_by, gives_names, rules_asked, rule_of, hints_of, AreOfRule}
use Rattle.spdx_hints.proofs.Asked.{find_same, Search, searched}

-- ---- of rows

-- what is asked of a catalogue is what is asked of its rows
pub meant_is : (c : Rows) (phrase : List ℕ) (found : List ImpreciseRow) (rows : List LicenseRow) → can_mean phrase ≡ true → found ≡ spellings c.imprecise phrase → rows ≡ c.licenses
    → (rule : Rule) → given_by found phrase rows rule ≡ meant_by c phrase rule
meant_is c phrase found rows can e f rule =
    ap (λ (ms : List ImpreciseRow). given_by ms phrase rows rule) e
    ∙ ap (λ (rs : List LicenseRow). given_by (spellings c.imprecise phrase) phrase rs rule) f
    ∙ sym (ap (λ b. cond b (given_by (spellings c.imprecise phrase) phrase c.licenses rule) []) can)

pub rows_same : (f g : Rule → List LicenseRow) → ((r : Rule) → f r ≡ g r) → (o : Option Rule) → option_map_or f o [] ≡ option_map_or g o []
rows_same f g e None = refl
rows_same f g e (Some r) = e r

pub rule_same : (f g : Rule → List LicenseRow) → ((r : Rule) → f r ≡ g r) → find (λ r. not (length (f r) == 0)) rules_asked ≡ find (λ r. not (length (g r) == 0)) rules_asked
rule_same f g e = find_same (λ r. not (length (f r) == 0)) (λ r. not (length (g r) == 0)) (λ r. ap (λ xs. not (length xs == 0)) (e r)) rules_asked

-- where nothing is given, the rule gives nothing
pub silent : (given rows : List LicenseRow) → given ≡ rows → length given ≡ 0 → not (length rows == 0) ≡ false
silent given rows e none = ap (λ n. not (n == 0)) (sym (ap length e) ∙ none)

-- ---- of names
never : {A : Type 0} → true ≡ false → A
never e = absurd cc

no_names : (xs : List (List ℕ)) → not (length xs == 0) ≡ false → xs ≡ []
no_names [] e = refl
no_names (x ∷ xs) e = never (sym (ap not (ne_eqb (length (x ∷ xs)) 0 (λ k. omega arith))) ∙ e)

some_names : (xs : List (List ℕ)) → not (length xs == 0) ≡ true → xs ≢ []
some_names [] e k = cc
some_names (x ∷ xs) e k = cc

module _ (c : Rows) (phrase : List ℕ) where
  agree : (rule : Rule) → means_by c (plain_of phrase) rule ≡ gives_names c phrase rule
  unfolding names_by
  agree rule = ap (λ n. not (n == 0)) (sym (length-map (meant_by c (plain_of phrase) rule) license_name))

  pub rule_is : (rule : Option Rule) → rule ≡ find (means_by c (plain_of phrase)) rules_asked → rule ≡ rule_of c phrase
  unfolding rule_of
  rule_is rule e = e ∙ find_same (means_by c (plain_of phrase)) (gives_names c phrase) agree rules_asked

  named : (o : Option Rule) → map license_name (option_map_or (meant_by c (plain_of phrase)) o []) ≡ option_map_or (names_by c phrase) o []
  unfolding names_by
  named None = refl
  named (Some r) = refl

  pub hints_are : (rows : List LicenseRow) (rule : Option Rule) → rows ≡ option_map_or (meant_by c (plain_of phrase)) rule [] → rule ≡ rule_of c phrase → map license_name rows ≡ hints_of c phrase
  unfolding hints_of
  hints_are rows rule e f = ap (map license_name) e ∙ named rule ∙ ap (λ o. option_map_or (names_by c phrase) o []) f

  of_rule : (o : Option Rule) → Search (gives_names c phrase) rules_asked o → AreOfRule c phrase (option_map_or (names_by c phrase) o []) o
  of_rule None h = (refl, λ k d lt. no_names _ (h k d lt))
  of_rule (Some rule) h = record {
    given = refl;
    some = some_names (names_by c phrase rule) h.passes;
    before = h.before;
    behind = h.behind;
    order = h.order;
    silent = λ k d lt. no_names _ (h.silent k d lt);
  }

  pub hints_of_rule : AreOfRule c phrase (hints_of c phrase) (rule_of c phrase)
  unfolding hints_of rule_of
  hints_of_rule = of_rule (rule_of c phrase) (searched (gives_names c phrase) rules_asked)

  pub are_of_rule : (names : List (List ℕ)) (rule : Option Rule) → names ≡ hints_of c phrase → rule ≡ rule_of c phrase → AreOfRule c phrase names rule
  are_of_rule names rule e f = subst (λ o. AreOfRule c phrase names o) (sym f) (subst (λ xs. AreOfRule c phrase xs (rule_of c phrase)) (sym e) hints_of_rule)
