-- Rows of one catalogue are ordered as their names are.
use Rattle.std.proofs.Common.{◌≡◌, ℕ, ◌<◌, List, length, get_or, Some, sym, ◌∙◌, ap, subst}
use Rattle.std.specs.Prelude.{slice_get}
use Rattle.std.specs.Ordering.{nat_cmp, ordering_reverse}
use Rattle.std.specs.declared.cmp.Ordering.{Ordering}
use Rattle.std.specs.declared.cmp.Ordering.TheVariants.{Equal}
use Rattle.std.specs.Cmp.Lexicographic.{slice_cmp}
use Rattle.std.proofs.lemmas.Cmp.{nat_list_cmp_total, ranked, by_ranked, tied_itself}
use Rattle.std.proofs.lemmas.Option.{slice_get_within, get_or_from_slice_get}
use Rattle.spdx_requirement.specs.Rows.{LicenseRow, ExceptionRow, license_name, exception_name}
use Rattle.spdx_catalogue.specs.Ascent.{Ascends}
use Rattle.spdx_catalogue.specs.NameOrders.{IsLicenseNameOrder, IsExceptionNameOrder}
use Rattle.spdx_catalogue.proofs.Sorted.{far}
use Rattle.spdx_catalogue.proofs.Ascending.{licenses_ascend, exceptions_ascend, licenses_keep, exceptions_keep}

abbrev bytes_cmp : List ℕ → List ℕ → Ordering
bytes_cmp = slice_cmp nat_cmp

module _ {A : Type 0} (key : A → List ℕ) where
  -- places are ordered as the keys that stand there
  places_as_keys : (xs : List A) → Ascends key xs → (i j : ℕ) (d : A) → i < length xs → j < length xs → (o : Ordering) → o ≡ nat_cmp i j → o ≡ bytes_cmp (key (get_or xs i d)) (key (get_or xs j d))
  places_as_keys xs up i j d before_i before_j o is =
      by_ranked (i < j) (i ≡ j) (j < i) o (ranked i j o is)
      (λ less lt. less ∙ sym (far key xs up i j d lt before_j))
      (λ equal same. equal ∙ sym (subst (λ k. bytes_cmp (key (get_or xs i d)) (key (get_or xs k d)) ≡ Equal) same (tied_itself nat_list_cmp_total (key (get_or xs i d)))))
      (λ greater lt. greater ∙ sym (nat_list_cmp_total.antisymm (key (get_or xs i d)) (key (get_or xs j d)) ∙ ap ordering_reverse (far key xs up j i d lt before_i)))

  rows_as_keys : (xs : List A) → Ascends key xs → (i j : ℕ) (x y : A) → slice_get xs i ≡ Some x → slice_get xs j ≡ Some y → (o : Ordering) → o ≡ nat_cmp i j → o ≡ bytes_cmp (key x) (key y)
  rows_as_keys xs up i j x y at_i at_j o is =
      places_as_keys xs up i j x (slice_get_within xs i x at_i) (slice_get_within xs j y at_j) o is
      ∙ ap (λ (z : A). bytes_cmp (key z) (key (get_or xs j x))) (get_or_from_slice_get xs i x x at_i)
      ∙ ap (λ (z : A). bytes_cmp (key x) (key z)) (get_or_from_slice_get xs j y x at_j)

pub licenses_by_name : (r s : LicenseRow) (o : Ordering) → o ≡ nat_cmp r.index s.index → IsLicenseNameOrder r s o
licenses_by_name r s o is c well at_r at_s =
    rows_as_keys license_name c.licenses (licenses_ascend c.licenses (licenses_keep c well)) r.index s.index r s at_r at_s o is

pub exceptions_by_name : (r s : ExceptionRow) (o : Ordering) → o ≡ nat_cmp r.index s.index → IsExceptionNameOrder r s o
exceptions_by_name r s o is c well at_r at_s =
    rows_as_keys exception_name c.exceptions (exceptions_ascend c.exceptions (exceptions_keep c well)) r.index s.index r s at_r at_s o is
