-- The order of requirements is total, and ties exactly those that are the same.
use Rattle.std.proofs.Common.{◌≡◌, ℕ, ◌<◌, Bool, true, false, List, [], ◌∷◌, Option, Some, None, refl, sym, ◌∙◌, ap, subst}
use Rattle.std.specs.Prelude.{option_map}
use Rattle.std.specs.Option as option
use Rattle.std.specs.Ordering.{nat_cmp, ordering_then, is_eq}
use Rattle.std.specs.declared.cmp.Ordering.{Ordering}
use Rattle.std.specs.declared.cmp.Ordering.TheVariants.{Less, Equal, Greater}
use Rattle.std.specs.Cmp.{IsTotalOrder}
use Rattle.std.specs.Cmp.Lexicographic.{slice_cmp, options_total}
use Rattle.std.proofs.lemmas.Cmp.{nat_cmp_total, nat_list_cmp_total, on_total, then_total, tied_itself, ranked, by_ranked}
use Rattle.spdx_requirement.specs.Items.{Reference, LicenseTerm, listed, referred, Addition, excepted, added, Requirement}
use Rattle.spdx_requirement.specs.Keys.{LicenseKey, license_reference, AdditionKey, exception_row, addition_reference, RequirementKey, license_key, addition_key, requirement_key}
use Rattle.spdx_requirement.specs.Orders.{option_cmp, mark_cmp, reference_cmp, license_cmp, addition_cmp, requirement_cmp}
use Rattle.spdx_requirement.specs.Equality.{same_requirement}
use Rattle.spdx_requirement.specs.EqualityLaws.{requirements_decide}
use Rattle.selections.proofs.Means.{same_truth}

-- an order is total that answers as a total one does
as_total : {K : Type 0} (R S : K → K → Ordering) → ((x y : K) → R x y ≡ S x y) → IsTotalOrder R → IsTotalOrder S
as_total R S e o = subst IsTotalOrder (λ i x y. e x y i) o

then_equal : (o : Ordering) → ordering_then o Equal ≡ o
then_equal Less = refl
then_equal Equal = refl
then_equal Greater = refl

-- ---- options, marks and references

as_option : {K : Type 0} (R : K → K → Ordering) (x y : Option K) → option.option_cmp R x y ≡ option_cmp R x y
as_option R None None = refl
as_option R None (Some y) = refl
as_option R (Some x) None = refl
as_option R (Some x) (Some y) = refl

some_total : {K : Type 0} (R : K → K → Ordering) → IsTotalOrder R → IsTotalOrder (option_cmp R)
some_total R o = as_total (option.option_cmp R) (option_cmp R) (as_option R) (options_total o)

abbrev number_of : Bool → ℕ
number_of false = 0
number_of true = 1

as_mark : (m n : Bool) → nat_cmp (number_of m) (number_of n) ≡ mark_cmp m n
as_mark false false = refl
as_mark false true = refl
as_mark true false = refl
as_mark true true = refl

marks_total : IsTotalOrder mark_cmp
marks_total = as_total (λ m n. nat_cmp (number_of m) (number_of n)) mark_cmp as_mark (on_total number_of nat_cmp_total)

references_total : IsTotalOrder reference_cmp
references_total =
    then_total (on_total (λ (r : Reference). r.document) (some_total (slice_cmp nat_cmp) nat_list_cmp_total)) (on_total (λ (r : Reference). r.name) nat_list_cmp_total)

-- ---- licences and additions, each by which it is, and then by its parts

nowhere : Reference
nowhere = record { document = None; name = [] }

abbrev license_kind : LicenseTerm → ℕ
license_kind (listed r m) = 0
license_kind (referred r) = 1

abbrev license_index : LicenseTerm → ℕ
license_index (listed r m) = r.index
license_index (referred r) = 0

abbrev license_mark : LicenseTerm → Bool
license_mark (listed r m) = m
license_mark (referred r) = false

abbrev license_reference_in : LicenseTerm → Reference
license_reference_in (listed r m) = nowhere
license_reference_in (referred r) = r

abbrev license_parts : LicenseTerm → LicenseTerm → Ordering
license_parts x y =
    ordering_then (nat_cmp (license_kind x) (license_kind y)) (ordering_then (nat_cmp (license_index x) (license_index y)) (ordering_then (mark_cmp (license_mark x) (license_mark y)) (reference_cmp (license_reference_in x) (license_reference_in y))))

as_license : (x y : LicenseTerm) → license_parts x y ≡ license_cmp x y
as_license (listed r m) (listed s n) =
    ap (λ (o : Ordering). ordering_then (nat_cmp r.index s.index) (ordering_then (mark_cmp m n) o)) (tied_itself references_total nowhere)
    ∙ ap (ordering_then (nat_cmp r.index s.index)) (then_equal (mark_cmp m n))
as_license (listed r m) (referred y) = refl
as_license (referred x) (listed s n) = refl
as_license (referred x) (referred y) = refl

licenses_total : IsTotalOrder license_cmp
licenses_total =
    as_total license_parts license_cmp as_license
    (then_total (on_total license_kind nat_cmp_total) (then_total (on_total license_index nat_cmp_total) (then_total (on_total license_mark marks_total) (on_total license_reference_in references_total))))

abbrev addition_kind : Addition → ℕ
addition_kind (excepted r) = 0
addition_kind (added r) = 1

abbrev addition_index : Addition → ℕ
addition_index (excepted r) = r.index
addition_index (added r) = 0

abbrev addition_reference_in : Addition → Reference
addition_reference_in (excepted r) = nowhere
addition_reference_in (added r) = r

abbrev addition_parts : Addition → Addition → Ordering
addition_parts x y =
    ordering_then (nat_cmp (addition_kind x) (addition_kind y)) (ordering_then (nat_cmp (addition_index x) (addition_index y)) (reference_cmp (addition_reference_in x) (addition_reference_in y)))

as_addition : (x y : Addition) → addition_parts x y ≡ addition_cmp x y
as_addition (excepted r) (excepted s) =
    ap (λ (o : Ordering). ordering_then (nat_cmp r.index s.index) o) (tied_itself references_total nowhere) ∙ then_equal (nat_cmp r.index s.index)
as_addition (excepted r) (added y) = refl
as_addition (added x) (excepted s) = refl
as_addition (added x) (added y) = refl

additions_total : IsTotalOrder addition_cmp
additions_total =
    as_total addition_parts addition_cmp as_addition
    (then_total (on_total addition_kind nat_cmp_total) (then_total (on_total addition_index nat_cmp_total) (on_total addition_reference_in references_total)))

pub requirements_total : IsTotalOrder requirement_cmp
requirements_total =
    then_total (on_total (λ (r : Requirement). r.license) licenses_total) (on_total (λ (r : Requirement). r.addition) (some_total addition_cmp additions_total))

-- ---- what ties has one key

then_tied : (a b : Ordering) → ordering_then a b ≡ Equal → (a ≡ Equal) × (b ≡ Equal)
then_tied Less b e = absurd cc
then_tied Equal b e = (refl, e)
then_tied Greater b e = absurd cc

tied_both : (a b : Ordering) → a ≡ Equal → b ≡ Equal → ordering_then a b ≡ Equal
tied_both a b e h = ap (λ (o : Ordering). ordering_then o b) e ∙ h

numbers_tied : (x y : ℕ) → nat_cmp x y ≡ Equal → x ≡ y
numbers_tied x y e = by_ranked (x < y) (x ≡ y) (y < x) (nat_cmp x y) (ranked x y (nat_cmp x y) refl) (λ h k. let bad : Less ≡ Equal = sym h ∙ e in absurd cc) (λ h k. k) (λ h k. let bad : Greater ≡ Equal = sym h ∙ e in absurd cc)

texts_tied : (x y : List ℕ) → slice_cmp nat_cmp x y ≡ Equal → x ≡ y
texts_tied [] [] e = refl
texts_tied [] (y ∷ ys) e = absurd cc
texts_tied (x ∷ xs) [] e = absurd cc
texts_tied (x ∷ xs) (y ∷ ys) e =
    let both = then_tied (nat_cmp x y) (slice_cmp nat_cmp xs ys) e in
    let head = numbers_tied x y both.0 in
    let rest = texts_tied xs ys both.1 in
    cc

options_tied : {K J : Type 0} (R : K → K → Ordering) (f : K → J) → ((x y : K) → R x y ≡ Equal → f x ≡ f y) → (x y : Option K) → option_cmp R x y ≡ Equal → option_map f x ≡ option_map f y
options_tied R f h None None e = refl
options_tied R f h None (Some y) e = absurd cc
options_tied R f h (Some x) None e = absurd cc
options_tied R f h (Some x) (Some y) e = ap Some (h x y e)

same_options : {K : Type 0} (x y : Option K) → option_map (λ (z : K). z) x ≡ option_map (λ (z : K). z) y → x ≡ y
same_options None None e = refl
same_options None (Some y) e = cc
same_options (Some x) None e = cc
same_options (Some x) (Some y) e = e

marks_tied : (m n : Bool) → mark_cmp m n ≡ Equal → m ≡ n
marks_tied false false e = refl
marks_tied false true e = absurd cc
marks_tied true false e = absurd cc
marks_tied true true e = refl

of_parts : Option (List ℕ) → List ℕ → Reference
of_parts document name = record { document = document; name = name }

references_tied : (x y : Reference) → reference_cmp x y ≡ Equal → x ≡ y
unfolding of_parts
references_tied x y e =
    let both = then_tied (option_cmp (slice_cmp nat_cmp) x.document y.document) (slice_cmp nat_cmp x.name y.name) e in
    let documents = same_options x.document y.document (options_tied (slice_cmp nat_cmp) (λ (t : List ℕ). t) texts_tied x.document y.document both.0) in
    ap (λ (z : Option (List ℕ)). of_parts z x.name) documents ∙ ap (of_parts y.document) (texts_tied x.name y.name both.1)

licenses_tied : (x y : LicenseTerm) → license_cmp x y ≡ Equal → license_key x ≡ license_key y
licenses_tied (listed r m) (listed s n) e =
    let both = then_tied (nat_cmp r.index s.index) (mark_cmp m n) e in
    let index = numbers_tied r.index s.index both.0 in
    let mark = marks_tied m n both.1 in
    cc
licenses_tied (listed r m) (referred y) e = absurd cc
licenses_tied (referred x) (listed s n) e = absurd cc
licenses_tied (referred x) (referred y) e = ap license_reference (references_tied x y e)

additions_tied : (x y : Addition) → addition_cmp x y ≡ Equal → addition_key x ≡ addition_key y
additions_tied (excepted r) (excepted s) e = ap exception_row (numbers_tied r.index s.index e)
additions_tied (excepted r) (added y) e = absurd cc
additions_tied (added x) (excepted s) e = absurd cc
additions_tied (added x) (added y) e = ap addition_reference (references_tied x y e)

abbrev key_of : LicenseKey → Option AdditionKey → RequirementKey
key_of l a = record { license = l; addition = a }

pub tied_key : (r s : Requirement) → requirement_cmp r s ≡ Equal → requirement_key r ≡ requirement_key s
tied_key r s e =
    let both = then_tied (license_cmp r.license s.license) (option_cmp addition_cmp r.addition s.addition) e in
    ap (λ (l : LicenseKey). key_of l (option_map addition_key r.addition)) (licenses_tied r.license s.license both.0)
    ∙ ap (key_of (license_key s.license)) (options_tied addition_cmp addition_key additions_tied r.addition s.addition both.1)

-- ---- and what has one key ties

license_ties : (x y : LicenseTerm) → license_key x ≡ license_key y → license_cmp x y ≡ Equal
license_ties (listed r m) (listed s n) e =
    let index : r.index ≡ s.index = cc in
    let mark : m ≡ n = cc in
    tied_both (nat_cmp r.index s.index) (mark_cmp m n) (ap (nat_cmp r.index) (sym index) ∙ tied_itself nat_cmp_total r.index) (ap (mark_cmp m) (sym mark) ∙ tied_itself marks_total m)
license_ties (listed r m) (referred y) e = cc
license_ties (referred x) (listed s n) e = cc
license_ties (referred x) (referred y) e = let same : x ≡ y = cc in ap (reference_cmp x) (sym same) ∙ tied_itself references_total x

addition_ties : (x y : Addition) → addition_key x ≡ addition_key y → addition_cmp x y ≡ Equal
addition_ties (excepted r) (excepted s) e = let index : r.index ≡ s.index = cc in ap (nat_cmp r.index) (sym index) ∙ tied_itself nat_cmp_total r.index
addition_ties (excepted r) (added y) e = cc
addition_ties (added x) (excepted s) e = cc
addition_ties (added x) (added y) e = let same : x ≡ y = cc in ap (reference_cmp x) (sym same) ∙ tied_itself references_total x

option_ties : (x y : Option Addition) → option_map addition_key x ≡ option_map addition_key y → option_cmp addition_cmp x y ≡ Equal
option_ties None None e = refl
option_ties None (Some y) e = cc
option_ties (Some x) None e = cc
option_ties (Some x) (Some y) e = let same : addition_key x ≡ addition_key y = cc in addition_ties x y same

pub key_tied : (r s : Requirement) → requirement_key r ≡ requirement_key s → requirement_cmp r s ≡ Equal
key_tied r s e =
    tied_both (license_cmp r.license s.license) (option_cmp addition_cmp r.addition s.addition)
    (license_ties r.license s.license (ap (λ (k : RequirementKey). k.license) e))
    (option_ties r.addition s.addition (ap (λ (k : RequirementKey). k.addition) e))

-- ---- so it ties those that are the same

pub same_is_tied : (r s : Requirement) → same_requirement r s ≡ is_eq (requirement_cmp r s)
same_is_tied r s = same_truth (same_requirement r s) (is_eq (requirement_cmp r s))
    (λ e. ap is_eq (key_tied r s ((requirements_decide r s).0 e)))
    (λ e. (requirements_decide r s).1 (tied_key r s (is (requirement_cmp r s) e)))
  where
    is : (o : Ordering) → is_eq o ≡ true → o ≡ Equal
    is Less e = let bad : false ≡ true = e in cc
    is Equal e = refl
    is Greater e = let bad : false ≡ true = e in cc

pub tied_of_same : (r s : Requirement) → same_requirement r s ≡ true → requirement_cmp r s ≡ Equal
tied_of_same r s e = key_tied r s ((requirements_decide r s).0 e)
