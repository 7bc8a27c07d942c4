-- Requirements are the same exactly where their keys are equal.
use Rattle.std.specs.Prelude.{◌≡◌, ℕ, Bool, true, false, ◌&&◌, List, Option, Some, None, option_map, bytes_eq}
use Rattle.std.specs.Bool.{Decides}
use Rattle.std.specs.Option.{option_eq}
use Rattle.std.specs.Cmp.{IsPartialEquivalence, IsEquivalence, equiv, booleans_Decides, unsigned_Decides}
use Rattle.std.proofs.Common.{refl, sym, ◌∙◌, ap}
use Rattle.std.proofs.lemmas.Bool.Decides.{same_from_decides}
use Rattle.std.proofs.lemmas.Slice.Eq.{bytes_eq-Decides}
use Rattle.spdx_requirement.specs.Items.{Reference, LicenseTerm, listed, referred, Addition, excepted, added, Requirement}
use Rattle.spdx_requirement.specs.Keys.{LicenseKey, license_reference, AdditionKey, exception_row, addition_reference, RequirementKey, license_key, addition_key, requirement_key}
use Rattle.spdx_requirement.specs.Equality.{same_reference, same_license, same_addition, same_requirement}

pub both_true : (a b : Bool) → (a && b) ≡ true → (a ≡ true) × (b ≡ true)
both_true true b e = (refl, e)
both_true false b e = let bad : false ≡ true = e in cc

pub true_both : (a b : Bool) → a ≡ true → b ≡ true → (a && b) ≡ true
true_both true b e f = f
true_both false b e f = let bad : false ≡ true = e in cc

pub options_decide : {A B : Type 0} (E : A → A → Bool) (h : A → B) →
    ((x y : A) → Decides (E x y) (h x ≡ h y)) → (a b : Option A) →
    Decides (option_eq E a b) (option_map h a ≡ option_map h b)
options_decide E h d None None = ((λ e. refl), (λ e. refl))
options_decide E h d None (Some y) = ((λ e. let bad : false ≡ true = e in cc), (λ e. cc))
options_decide E h d (Some x) None = ((λ e. let bad : false ≡ true = e in cc), (λ e. cc))
options_decide E h d (Some x) (Some y) = ((λ e. ap Some ((d x y).0 e)), (λ e. let same : h x ≡ h y = cc in (d x y).1 same))

same_option : {A : Type 0} (a b : Option A) →
    option_map (λ (x : A). x) a ≡ option_map (λ (x : A). x) b → a ≡ b
same_option None None e = refl
same_option None (Some y) e = cc
same_option (Some x) None e = cc
same_option (Some x) (Some y) e = e

of_parts : Option (List ℕ) → List ℕ → Reference
of_parts document name = record { document = document; name = name }

references_decide : (x y : Reference) → Decides (same_reference x y) (x ≡ y)
unfolding of_parts
references_decide x y =
    let documents = options_decide bytes_eq (λ (t : List ℕ). t) bytes_eq-Decides x.document y.document in
    let names = bytes_eq-Decides x.name y.name in (
      (λ e.
          let both = both_true _ _ e in
          ap (λ z. of_parts z x.name) (same_option x.document y.document (documents.0 both.0)) ∙
          ap (λ z. of_parts y.document z) (names.0 both.1)),
      (λ e. true_both _ _ (documents.1
          (ap (λ (z : Reference). option_map (λ (t : List ℕ). t) z.document) e))
          (names.1 (ap (λ (z : Reference). z.name) e))),
    )

licenses_decide : (x y : LicenseTerm) → Decides (same_license x y) (license_key x ≡ license_key y)
licenses_decide (listed r m) (listed s n) = (
  (λ e.
      let both = both_true _ _ e in
      let index : r.index ≡ s.index = (unsigned_Decides r.index s.index).0 both.0 in
      let mark : m ≡ n = (booleans_Decides m n).0 both.1 in
      cc),
  (λ e.
      let index : r.index ≡ s.index = cc in
      let mark : m ≡ n = cc in
      true_both _ _ ((unsigned_Decides r.index s.index).1 index) ((booleans_Decides m n).1 mark)),
)
licenses_decide (referred x) (referred y) = ((λ e. ap license_reference ((references_decide x y).0 e)), (λ e. let same : x ≡ y = cc in (references_decide x y).1 same))
licenses_decide (listed r m) (referred y) = ((λ e. let bad : false ≡ true = e in cc), (λ e. cc))
licenses_decide (referred x) (listed s n) = ((λ e. let bad : false ≡ true = e in cc), (λ e. cc))

additions_decide : (x y : Addition) → Decides (same_addition x y) (addition_key x ≡ addition_key y)
additions_decide (excepted r) (excepted s) = (
  (λ e. ap exception_row ((unsigned_Decides r.index s.index).0 e)),
  (λ e. let index : r.index ≡ s.index = cc in (unsigned_Decides r.index s.index).1 index),
)
additions_decide (added x) (added y) = ((λ e. ap addition_reference ((references_decide x y).0 e)), (λ e. let same : x ≡ y = cc in (references_decide x y).1 same))
additions_decide (excepted r) (added y) = ((λ e. let bad : false ≡ true = e in cc), (λ e. cc))
additions_decide (added x) (excepted s) = ((λ e. let bad : false ≡ true = e in cc), (λ e. cc))

pub requirements_decide : (r s : Requirement) →
    Decides (same_requirement r s) (requirement_key r ≡ requirement_key s)
requirements_decide r s =
    let licenses = licenses_decide r.license s.license in
    let additions = options_decide same_addition addition_key additions_decide r.addition s.addition in
    let made : LicenseKey → Option AdditionKey → RequirementKey = λ l a. record { license = l; addition = a } in (
      (λ e.
          let both = both_true _ _ e in
          ap (λ (l : LicenseKey). made l (option_map addition_key r.addition)) (licenses.0 both.0)
          ∙ ap (λ (a : Option AdditionKey). made (license_key s.license) a) (additions.0 both.1)),
      (λ e. true_both _ _ (licenses.1 (ap (λ (z : RequirementKey). z.license) e))
          (additions.1 (ap (λ (z : RequirementKey). z.addition) e))),
    )

-- so it is an equivalence
partly : IsPartialEquivalence same_requirement
partly = record {
  symm = λ a b.
      let there = requirements_decide a b in
      let back = requirements_decide b a in
      same_from_decides (same_requirement a b) (same_requirement b a) there
      ((λ e. sym (back.0 e)), (λ e. back.1 (sym e)));
  trans =
      λ a b c e f. (requirements_decide a c).1
      ((requirements_decide a b).0 e ∙ (requirements_decide b c).0 f);
}

pub same_requirement_laws : IsEquivalence same_requirement
same_requirement_laws = equiv partly (λ r. (requirements_decide r r).1 refl)
