-- The names of hints are few, listed and undeprecated.
use Rattle.std.proofs.Common.{◌≡◌, ℕ, ◌≤◌, Bool, true, false, cond, List, [], length, filter, refl, sym, ◌∙◌, ap, subst, arith, Option, None, Some, All, Contains}
use Rattle.std.specs.Prelude.{nat_le, not, ◌&&◌}
use Rattle.std.specs.Option.{option_map_or}
use Rattle.std.proofs.lemmas.Bool.{leb-true}
use Rattle.std.proofs.lemmas.List.{length-map}
use Rattle.std.proofs.lemmas.List.Elements.{All-nil, All-map, All-same, All-filter, All-contains_itself, filter_passes}
use Rattle.std.specs.Borrow.{Bor}
use Rattle.spdx_hints.specs.Borrowed.{nows}
use Rattle.spdx_requirement.specs.Rows.{Rows, LicenseRow, ImpreciseRow, license_name}
use Rattle.spdx_requirement.specs.Flags.{is_deprecated}
use Rattle.spdx_hints.specs.declared.rule.Rule.{Rule}
use Rattle.spdx_hints.specs.Rules.{spellings, may_be_meant}
use Rattle.spdx_hints.specs.Plain.{plain_of}
use Rattle.spdx_hints.specs.Hints.{is_approved, six_or_none, few, given_by, can_mean, meant_by, names_by, rule_of, hints_of, IsGoodName}

-- ---- at most six
six : (b : Bool) (rows others : List LicenseRow) → nat_le (length rows) 6 ≡ b → length others ≤ 6 → length (cond b rows others) ≤ 6
six true rows others e le = leb-true (length rows) 6 e
six false rows others e le = le

none_six : length {A = LicenseRow} [] ≤ 6
none_six = omega arith

few_six : (rows : List LicenseRow) → length (few rows) ≤ 6
few_six rows = six (nat_le (length rows) 6) rows (six_or_none (filter is_approved rows)) refl (six (nat_le (length (filter is_approved rows)) 6) (filter is_approved rows) [] refl none_six)

either : (b : Bool) (xs ys : List LicenseRow) → length xs ≤ 6 → length ys ≤ 6 → length (cond b xs ys) ≤ 6
either true xs ys p q = p
either false xs ys p q = q

meant_six : (c : Rows) (phrase : List ℕ) (rule : Rule) → length (meant_by c phrase rule) ≤ 6
meant_six c phrase rule =
    either (can_mean phrase) (given_by (spellings c.imprecise phrase) phrase c.licenses rule) [] (few_six (filter (may_be_meant rule (spellings c.imprecise phrase) phrase) c.licenses)) none_six

names_six : (c : Rows) (phrase : List ℕ) (rule : Rule) → length (names_by c phrase rule) ≤ 6
unfolding names_by
names_six c phrase rule = subst (λ n. n ≤ 6) (sym (length-map (meant_by c (plain_of phrase) rule) license_name)) (meant_six c (plain_of phrase) rule)

given_six : (c : Rows) (phrase : List ℕ) (o : Option Rule) → length (option_map_or (names_by c phrase) o []) ≤ 6
given_six c phrase None = omega arith
given_six c phrase (Some rule) = names_six c phrase rule

pub hints_six : (c : Rows) (phrase : List ℕ) (names : List (List ℕ)) → names ≡ hints_of c phrase → length names ≤ 6
unfolding hints_of
hints_six c phrase names e = subst (λ n. n ≤ 6) (sym (ap length e)) (given_six c phrase (rule_of c phrase))

-- the length of a vector of borrowed names
pub len_six : {A : Type 0} (items : List (Bor A)) (len : ℕ) → len ≡ length items → length (nows items) ≤ 6 → len ≤ 6
len_six {A} items len e k = subst (λ n. n ≤ 6) (sym (e ∙ sym (length-map items (λ (x : Bor A). x.now)))) k

-- ---- listed and undeprecated
abbrev IsGood : Rows → LicenseRow → Type 0
IsGood c r = Contains c.licenses r × (is_deprecated r.flags ≡ false)

left_true : (a b : Bool) → (not a && b) ≡ true → a ≡ false
left_true true b e = absurd cc
left_true false b e = refl

chosen : (P : LicenseRow → Type 0) (b : Bool) (xs ys : List LicenseRow) → All P xs → All P ys → All P (cond b xs ys)
chosen P true xs ys p q = p
chosen P false xs ys p q = q

module _ (c : Rows) where
  passed : (found : List ImpreciseRow) (phrase : List ℕ) (r : Rule) → All (IsGood c) (filter (may_be_meant r found phrase) c.licenses)
  passed found phrase r k d lt = (
    All-filter (may_be_meant r found phrase) (Contains c.licenses) c.licenses (All-contains_itself c.licenses) k d lt,
    left_true _ _ (filter_passes (may_be_meant r found phrase) c.licenses k d lt),
  )

  few_good : (rows : List LicenseRow) → All (IsGood c) rows → All (IsGood c) (few rows)
  few_good rows good =
      chosen (IsGood c) (nat_le (length rows) 6) rows (six_or_none (filter is_approved rows)) good
      (chosen (IsGood c) (nat_le (length (filter is_approved rows)) 6) (filter is_approved rows) [] (All-filter is_approved (IsGood c) rows good) (All-nil (IsGood c)))

  meant_good : (phrase : List ℕ) (rule : Rule) → All (IsGood c) (meant_by c phrase rule)
  meant_good phrase rule =
      chosen (IsGood c) (can_mean phrase) (given_by (spellings c.imprecise phrase) phrase c.licenses rule) []
      (few_good (filter (may_be_meant rule (spellings c.imprecise phrase) phrase) c.licenses) (passed (spellings c.imprecise phrase) phrase rule)) (All-nil (IsGood c))

  names_good : (phrase : List ℕ) (rule : Rule) → All (IsGoodName c) (names_by c phrase rule)
  unfolding names_by
  names_good phrase rule =
      All-map (IsGoodName c) license_name (meant_by c (plain_of phrase) rule)
      (λ k d lt. let good = meant_good (plain_of phrase) rule k d lt in record { row = _; listed = good.0; undeprecated = good.1; is = refl })

  given_good : (phrase : List ℕ) (o : Option Rule) → All (IsGoodName c) (option_map_or (names_by c phrase) o [])
  given_good phrase None = All-nil (IsGoodName c)
  given_good phrase (Some rule) = names_good phrase rule

  pub hints_good : (phrase : List ℕ) (names : List (List ℕ)) → names ≡ hints_of c phrase → All (IsGoodName c) names
  unfolding hints_of
  hints_good phrase names e = All-same (IsGoodName c) names (option_map_or (names_by c phrase) (rule_of c phrase) []) e (given_good phrase (rule_of c phrase))
