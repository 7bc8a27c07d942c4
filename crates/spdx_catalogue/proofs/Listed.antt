-- What the rows of a well-formed catalogue keep, for who looks them up.
use Rattle.std.proofs.Common.{◌≡◌, ℕ, zero, suc, ◌<◌, Bool, true, false, cond, List, [], ◌∷◌, ◌++◌, length, get_or, Option, Some, None, find, refl, sym, ◌∙◌, ap, subst, arith, Bor, IfSome, string_bytes}
use Rattle.std.specs.Prelude.{slice_get, bytes_eq, is_some, option_map, option_and_then, ◌==◌, ◌&&◌, if◌then◌else◌}
use Rattle.std.specs.Ordering.{nat_cmp, is_eq}
use Rattle.std.specs.declared.cmp.Ordering.{Ordering}
use Rattle.std.specs.declared.cmp.Ordering.TheVariants.{Less, Equal, Greater}
use Rattle.std.specs.Cmp.Lexicographic.{slice_cmp}
use Rattle.std.specs.Str.{str_eq_ignore_ascii_case}
use Rattle.std.proofs.lemmas.Slice.Eq.{bytes_eq-Decides}
use Rattle.std.proofs.lemmas.Map.Text.{is_eq-slice_cmp}
use Rattle.std.proofs.lemmas.Bool.{eqb-true}
use Rattle.std.proofs.lemmas.Option.{slice_get_within, get_or_from_slice_get}
use Rattle.spdx_catalogue.specs.Names.{is_name, is_operator, has_two_suffixes, without_plus, begins_caseless}
use Rattle.spdx_requirement.specs.Endings.{has_suffix, ending}
use Rattle.spdx_requirement.specs.Flags.{is_gnu}
use Rattle.spdx_requirement.specs.Rows.{Rows, LicenseRow, ExceptionRow, ImpreciseRow, license_name, exception_name, imprecise_of}
use Rattle.spdx_requirement.specs.declared.row.ImpreciseName.{ImpreciseName}
use Rattle.std.specs.Option.{option_copied}
use Rattle.spdx_catalogue.specs.LookUps.{listed, listed_exception, listed_caseless, listed_exception_caseless, imprecise_license, gnu_listed}
use Rattle.spdx_catalogue.proofs.Spellings.{imprecise_row}
use Rattle.spdx_catalogue.specs.RowRules.{is_well_formed}
use Rattle.spdx_catalogue.specs.Ascent.{Ascends}
use Rattle.spdx_catalogue.proofs.Sorted.{finds}
use Rattle.spdx_catalogue.proofs.Caseless.{find_passes, bytes_same}
use Rattle.spdx_catalogue.proofs.Ascending.{license_kept, exception_kept, imprecise_row_kept, licenses_ascend, exceptions_ascend, licenses_keep, exceptions_keep, imprecise_keep}

-- the row stands in the list, at its own index
abbrev pub IsLicense : Rows → LicenseRow → Type 0
IsLicense c r = slice_get c.licenses r.index ≡ Some r

abbrev pub IsException : Rows → ExceptionRow → Type 0
IsException c r = slice_get c.exceptions r.index ≡ Some r

-- what a walk finds stands somewhere, and passes its test
pub find_place : {A : Type 0} (p : A → Bool) (xs : List A) (x : A) → find p xs ≡ Some x → (i : ℕ) × (slice_get xs i ≡ Some x)
find_place p [] x h = absurd cc
find_place {A} p (y ∷ ys) x h = pick (p y) h (find_place p ys x)
  where
    pick : (b : Bool) → cond b (Some y) (find p ys) ≡ Some x → (find p ys ≡ Some x → (i : ℕ) × (slice_get ys i ≡ Some x)) → (i : ℕ) × (slice_get (y ∷ ys) i ≡ Some x)
    pick true e rest = (0, e)
    pick false e rest = let more = rest e in (suc more.0, more.1)

held : {A : Type 0} (o : Option A) → is_some o ≡ true → (x : A) × (o ≡ Some x)
held None h = absurd cc
held (Some x) h = (x, refl)

some_pair : {A : Type 0} (x y : A) (m n : ℕ) → (let pair : A × ℕ = (x, m) in Some pair) ≡ Some (y, n) → (x ≡ y) × (m ≡ n)
some_pair {A} x y m n h =
    let p : A × ℕ = (x, m) in
    let q : A × ℕ = (y, n) in
    let pairs : p ≡ q = cc in
    (ap (λ (t : A × ℕ). t.0) pairs, ap (λ (t : A × ℕ). t.1) pairs)

is_own : (name : List ℕ) → slice_cmp nat_cmp name name ≡ Equal
is_own name = equal (slice_cmp nat_cmp name name) (is_eq-slice_cmp name name ∙ (bytes_eq-Decides name name).1 refl)
  where
    equal : (o : Ordering) → is_eq o ≡ true → o ≡ Equal
    equal Less h = absurd cc
    equal Equal h = refl
    equal Greater h = absurd cc

-- a row of a list whose names ascend is what its own name finds
module _ {A : Type 0} (key : A → List ℕ) where
  own_found : (rows : List A) → Ascends key rows → (i : ℕ) (r : A) → slice_get rows i ≡ Some r → find (λ y. bytes_eq (key y) (key r)) rows ≡ Some r
  own_found rows up i r at =
      let lt : i < length rows = slice_get_within rows i r at in
      let here : get_or rows i r ≡ r = get_or_from_slice_get rows i r r at in
      finds key rows up (key r) i r lt (subst (λ y. slice_cmp nat_cmp (key y) (key r) ≡ Equal) (sym here) (is_own (key r))) ∙ at

module _ (c : Rows) (well : is_well_formed c ≡ true) where
  -- ---- licences
  license_at : (i : ℕ) (r : LicenseRow) → slice_get c.licenses i ≡ Some r → r.index ≡ i
  license_at i r at = eqb-true r.index i (license_kept c.licenses (licenses_keep c well) i r (slice_get_within c.licenses i r at) at).0.placed

  pub license_of_place : (i : ℕ) (r : LicenseRow) → slice_get c.licenses i ≡ Some r → IsLicense c r
  license_of_place i r at = subst (λ k. slice_get c.licenses k ≡ Some r) (sym (license_at i r at)) at

  license_found : (p : LicenseRow → Bool) (r : LicenseRow) → find p c.licenses ≡ Some r → IsLicense c r
  license_found p r h = let place = find_place p c.licenses r h in license_of_place place.0 r place.1

  -- a listed name is not empty and of name bytes alone, and no operator
  pub license_is_named : (r : LicenseRow) → IsLicense c r → (is_name r.name ≡ true) × (is_operator r.name ≡ false)
  license_is_named r at = let kept = (license_kept c.licenses (licenses_keep c well) r.index r (slice_get_within c.licenses r.index r at) at).0 in (kept.named, kept.no_operator)

  -- a GNU name has one ending at most
  pub license_one_suffix : (r : LicenseRow) → IsLicense c r → is_gnu r.flags ≡ true → has_two_suffixes r.name ≡ false
  license_one_suffix r at gnu = subst (λ b. b && has_two_suffixes r.name ≡ false) gnu (license_kept c.licenses (licenses_keep c well) r.index r (slice_get_within c.licenses r.index r at) at).1

  -- names differ: each row is what its own name finds
  pub license_own_name : (r : LicenseRow) → IsLicense c r → listed c.licenses r.name ≡ Some r
  license_own_name r at = own_found license_name c.licenses (licenses_ascend c.licenses (licenses_keep c well)) r.index r at

  pub listed_is_license : (name : List ℕ) (r : LicenseRow) → listed c.licenses name ≡ Some r → IsLicense c r
  listed_is_license name r h = license_found (λ (y : LicenseRow). bytes_eq y.name name) r h

  pub listed_name : (name : List ℕ) (r : LicenseRow) → listed c.licenses name ≡ Some r → r.name ≡ name
  listed_name name r h = bytes_same r.name name (find_passes (λ (y : LicenseRow). bytes_eq y.name name) c.licenses r (sym h))

  pub caseless_is_license : (name : List ℕ) (r : LicenseRow) → listed_caseless c.licenses name ≡ Some r → IsLicense c r
  caseless_is_license name r h = license_found (λ (y : LicenseRow). str_eq_ignore_ascii_case y.name name) r h

  pub caseless_name : (name : List ℕ) (r : LicenseRow) → listed_caseless c.licenses name ≡ Some r → str_eq_ignore_ascii_case r.name name ≡ true
  caseless_name name r h = find_passes (λ (y : LicenseRow). str_eq_ignore_ascii_case y.name name) c.licenses r (sym h)

  pub gnu_is_license : (base : List ℕ) (later : Bool) (r : LicenseRow) → gnu_listed c.licenses base later ≡ Some r → IsLicense c r
  gnu_is_license base later r h = pick (has_suffix base) h
    where
      pick : (b : Bool) → (if b then listed c.licenses (without_plus base) else listed c.licenses (base ++ ending later)) ≡ Some r → IsLicense c r
      pick true e = listed_is_license (without_plus base) r e
      pick false e = listed_is_license (base ++ ending later) r e

  -- ---- exceptions
  exception_at : (i : ℕ) (r : ExceptionRow) → slice_get c.exceptions i ≡ Some r → r.index ≡ i
  exception_at i r at = eqb-true r.index i (exception_kept c.exceptions (exceptions_keep c well) i r (slice_get_within c.exceptions i r at) at).placed

  pub exception_of_place : (i : ℕ) (r : ExceptionRow) → slice_get c.exceptions i ≡ Some r → IsException c r
  exception_of_place i r at = subst (λ k. slice_get c.exceptions k ≡ Some r) (sym (exception_at i r at)) at

  exception_found : (p : ExceptionRow → Bool) (r : ExceptionRow) → find p c.exceptions ≡ Some r → IsException c r
  exception_found p r h = let place = find_place p c.exceptions r h in exception_of_place place.0 r place.1

  pub exception_is_named : (r : ExceptionRow) → IsException c r → (is_name r.name ≡ true) × (is_operator r.name ≡ false)
  exception_is_named r at = let kept = exception_kept c.exceptions (exceptions_keep c well) r.index r (slice_get_within c.exceptions r.index r at) at in (kept.named, kept.no_operator)

  pub exception_own_name : (r : ExceptionRow) → IsException c r → listed_exception c.exceptions r.name ≡ Some r
  exception_own_name r at = own_found exception_name c.exceptions (exceptions_ascend c.exceptions (exceptions_keep c well)) r.index r at

  pub listed_is_exception : (name : List ℕ) (r : ExceptionRow) → listed_exception c.exceptions name ≡ Some r → IsException c r
  listed_is_exception name r h = exception_found (λ (y : ExceptionRow). bytes_eq y.name name) r h

  pub listed_exception_name : (name : List ℕ) (r : ExceptionRow) → listed_exception c.exceptions name ≡ Some r → r.name ≡ name
  listed_exception_name name r h = bytes_same r.name name (find_passes (λ (y : ExceptionRow). bytes_eq y.name name) c.exceptions r (sym h))

  pub caseless_is_exception : (name : List ℕ) (r : ExceptionRow) → listed_exception_caseless c.exceptions name ≡ Some r → IsException c r
  caseless_is_exception name r h = exception_found (λ (y : ExceptionRow). str_eq_ignore_ascii_case y.name name) r h

  pub caseless_exception_name : (name : List ℕ) (r : ExceptionRow) → listed_exception_caseless c.exceptions name ≡ Some r → str_eq_ignore_ascii_case r.name name ≡ true
  caseless_exception_name name r h = find_passes (λ (y : ExceptionRow). str_eq_ignore_ascii_case y.name name) c.exceptions r (sym h)

  -- ---- imprecise names
  -- the prefix of a spelling that is found is not empty, and its target is listed
  pub imprecise_kept : (text : List ℕ) (m : ImpreciseRow) → imprecise_row c.imprecise text ≡ Some m → (0 < length m.prefix) × ((r : LicenseRow) × (listed c.licenses m.name ≡ Some r))
  imprecise_kept text m h =
      let place = find_place (λ (y : ImpreciseRow). begins_caseless y.prefix text) c.imprecise m h in
      let kept = imprecise_row_kept c.licenses c.imprecise (imprecise_keep c well) place.0 m (slice_get_within c.imprecise place.0 m place.1) place.1 in
      (above (length m.prefix) kept.0, held (listed c.licenses m.name) kept.1)
    where
      above : (n : ℕ) → (n == 0) ≡ false → 0 < n
      above zero e = absurd cc
      above (suc n) e = omega arith

  pub prefix_taken : (text : List ℕ) (o : Option (Bor ImpreciseName)) → option_map imprecise_of (option_copied o) ≡ imprecise_row c.imprecise text → IfSome o (λ m. 0 < length (string_bytes m.now.prefix))
  prefix_taken text None h = tt
  prefix_taken text (Some m) h = (imprecise_kept text (imprecise_of m.now) (sym h)).0

  -- a text that begins with a spelling means a listed licence, and the spelling takes a byte at least
  pub imprecise_is_license : (text : List ℕ) (r : LicenseRow) (n : ℕ) → imprecise_license c text ≡ Some (r, n) → IsLicense c r × (0 < n)
  imprecise_is_license text r n h = spelled (imprecise_row c.imprecise text) refl h
    where
      target : (m : ImpreciseRow) → imprecise_row c.imprecise text ≡ Some m → (o : Option LicenseRow) → listed c.licenses m.name ≡ o → option_map {U = LicenseRow × ℕ} (λ (y : LicenseRow). (y, length m.prefix)) o ≡ Some (r, n) → IsLicense c r × (0 < n)
      target m found None e g = absurd cc
      target m found (Some y) e g =
          let same = some_pair y r (length m.prefix) n g in
          (listed_is_license m.name r (e ∙ ap Some same.0), subst (λ k. 0 < k) same.1 (imprecise_kept text m found).0)

      spelled : (o : Option ImpreciseRow) → imprecise_row c.imprecise text ≡ o → option_and_then (λ (m : ImpreciseRow). option_map {U = LicenseRow × ℕ} (λ (y : LicenseRow). (y, length m.prefix)) (listed c.licenses m.name)) o ≡ Some (r, n) → IsLicense c r × (0 < n)
      spelled None e g = absurd cc
      spelled (Some m) e g = target m e (listed c.licenses m.name) refl g
