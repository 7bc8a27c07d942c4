-- Trees are the same exactly where their keys are equal; and over one catalogue that is equality of
-- the trees.
use Rattle.std.specs.Prelude.{◌≡◌, ℕ, true, false, Option, Some, None, option_map, slice_get}
use Rattle.std.specs.Bool.{Decides}
use Rattle.std.specs.Cmp.{IsPartialEquivalence}
use Rattle.std.proofs.Common.{refl, sym, ◌∙◌, ap}
use Rattle.std.proofs.lemmas.Bool.Decides.{same_from_decides}
use Rattle.spdx_requirement.specs.Rows.{Rows}
use Rattle.spdx_requirement.specs.Items.{LicenseTerm, listed, referred, Addition, excepted, added}
use Rattle.spdx_requirement.specs.Keys.{RequirementKey, license_key, addition_key, requirement_key}
use Rattle.spdx_requirement.specs.EqualityLaws.{both_true, true_both, requirements_decide}
use Rattle.spdx_parser.specs.declared.node.Operator.{Operator}
use Rattle.spdx_parser.specs.declared.node.Operator.TheVariants.{And, Or}
use Rattle.spdx_parser.specs.Tree.{Tree, Leaf, Join}
use Rattle.spdx_parser.specs.Meaning.{IsLicenseOf, IsAdditionOf, IsOfRows}
use Rattle.spdx.specs.Equality.{same_operator, same_tree, leaf_key, tree_key}

pub operators_decide : (o p : Operator) → Decides (same_operator o p) (o ≡ p)
operators_decide And And = ((λ e. refl), (λ e. refl))
operators_decide Or Or = ((λ e. refl), (λ e. refl))
operators_decide And Or = ((λ e. let bad : false ≡ true = e in cc), (λ e. cc))
operators_decide Or And = ((λ e. let bad : false ≡ true = e in cc), (λ e. cc))

pub trees_decide : (a b : Tree) → Decides (same_tree a b) (tree_key a ≡ tree_key b)
trees_decide (Leaf r) (Leaf s) = (
  (λ e. ap leaf_key ((requirements_decide r s).0 e)),
  (λ e. let same : requirement_key r ≡ requirement_key s = cc in (requirements_decide r s).1 same),
)
trees_decide (Join o l r) (Join p t u) = (
  (λ e.
      let both = both_true _ _ e in
      let sides = both_true _ _ both.1 in
      let operator : o ≡ p = (operators_decide o p).0 both.0 in
      let left : tree_key l ≡ tree_key t = (trees_decide l t).0 sides.0 in
      let right : tree_key r ≡ tree_key u = (trees_decide r u).0 sides.1 in
      cc),
  (λ e.
      let operator : o ≡ p = cc in
      let left : tree_key l ≡ tree_key t = cc in
      let right : tree_key r ≡ tree_key u = cc in
      true_both _ _ ((operators_decide o p).1 operator)
      (true_both _ _ ((trees_decide l t).1 left) ((trees_decide r u).1 right))),
)
trees_decide (Leaf r) (Join p t u) = ((λ e. let bad : false ≡ true = e in cc), (λ e. cc))
trees_decide (Join o l r) (Leaf s) = ((λ e. let bad : false ≡ true = e in cc), (λ e. cc))

-- so it is symmetric and transitive
pub same_tree_laws : IsPartialEquivalence same_tree
same_tree_laws = record {
  symm = λ a b.
      let there = trees_decide a b in
      let back = trees_decide b a in
      same_from_decides (same_tree a b) (same_tree b a) there
      ((λ e. sym (back.0 e)), (λ e. back.1 (sym e)));
  trans = λ a b c e f. (trees_decide a c).1 ((trees_decide a b).0 e ∙ (trees_decide b c).0 f);
}

-- Over one catalogue a row is told by its index.

license_told : (c : Rows) (x y : LicenseTerm) → IsLicenseOf c x → IsLicenseOf c y →
    license_key x ≡ license_key y → x ≡ y
license_told c (listed r m) (listed s n) h k e =
    let index : r.index ≡ s.index = cc in
    let mark : m ≡ n = cc in
    let found : Some r ≡ Some s = sym h ∙ ap (λ (i : ℕ). slice_get c.licenses i) index ∙ k in
    let row : r ≡ s = cc in
    cc
license_told c (referred x) (referred y) h k e = cc
license_told c (listed r m) (referred y) h k e = cc
license_told c (referred x) (listed s n) h k e = cc

addition_told : (c : Rows) (x y : Option Addition) → IsAdditionOf c x → IsAdditionOf c y →
    option_map addition_key x ≡ option_map addition_key y → x ≡ y
addition_told c None None h k e = refl
addition_told c None (Some y) h k e = cc
addition_told c (Some x) None h k e = cc
addition_told c (Some (excepted r)) (Some (excepted s)) h k e =
    let index : r.index ≡ s.index = cc in
    let found : Some r ≡ Some s = sym h ∙ ap (λ (i : ℕ). slice_get c.exceptions i) index ∙ k in
    let row : r ≡ s = cc in
    cc
addition_told c (Some (added x)) (Some (added y)) h k e = cc
addition_told c (Some (excepted r)) (Some (added y)) h k e = cc
addition_told c (Some (added x)) (Some (excepted s)) h k e = cc

pub tree_told : (c : Rows) (a b : Tree) → IsOfRows c a → IsOfRows c b → tree_key a ≡ tree_key b →
    a ≡ b
tree_told c (Leaf r) (Leaf s) h k e =
    let same : requirement_key r ≡ requirement_key s = cc in
    let license : r.license ≡ s.license = license_told c r.license s.license h.0 k.0 (ap (λ (z : RequirementKey). z.license) same) in
    let addition : r.addition ≡ s.addition = addition_told c r.addition s.addition h.1 k.1 (ap (λ (z : RequirementKey). z.addition) same) in
    ap (λ (l : LicenseTerm). Leaf (record { license = l; addition = r.addition })) license
    ∙ ap (λ (a : Option Addition). Leaf (record { license = s.license; addition = a })) addition
tree_told c (Join o l r) (Join p t u) h k e =
    let operator : o ≡ p = cc in
    let lefts : tree_key l ≡ tree_key t = cc in
    let rights : tree_key r ≡ tree_key u = cc in
    let left : l ≡ t = tree_told c l t h.0 k.0 lefts in
    let right : r ≡ u = tree_told c r u h.1 k.1 rights in
    cc
tree_told c (Leaf r) (Join p t u) h k e = cc
tree_told c (Join o l r) (Leaf s) h k e = cc
