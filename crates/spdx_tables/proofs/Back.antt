-- What is written of rows is read back as the same rows, each with its place as its index.
use Rattle.std.proofs.Common.{◌≡◌, ℕ, suc, ◌≤◌, Bool, true, false, ◌&&◌, List, [], ◌∷◌, Option, None, Some, Ok, map, refl, ap, arith, codes}
use Rattle.std.specs.List.{list_all}
use Rattle.std.specs.Str.{is_utf8}
use Rattle.serde_json.specs.Data.{Data, depth, items_depth}
use Rattle.serde_json.specs.Read.{read, max_depth}
use Rattle.serde_json.specs.View.{items_of}
use Rattle.serde_json.specs.Written.{has_float, items_have_float}
use Rattle.spdx_requirement.specs.Rows.{Rows, LicenseRow, ExceptionRow, ImpreciseRow}
use Rattle.spdx_tables.specs.Shape.{license_row, exception_row, imprecise_row, rows_from, tables, text_at}
use Rattle.spdx_tables.specs.TableReading.{date_in, tables_in}
use Rattle.spdx_tables.specs.Places.{license_at, exception_at, numbered, renumbered}
use Rattle.spdx_tables.specs.Written.{license_data, exception_data, imprecise_data, tables_data, license_fits, exception_fits, imprecise_fits, Fit}

pub front : (a b : Bool) → (a && b) ≡ true → a ≡ true
front true b h = refl
front false b h = h

pub back : (a b : Bool) → (a && b) ≡ true → b ≡ true
back true b h = h
back false true h = refl
back false false h = h

license_back : (r : LicenseRow) (n : ℕ) → license_fits r ≡ true → license_row n (license_data r) ≡ Some (license_at n r)
license_back r n fits = rw fits

exception_back : (r : ExceptionRow) (n : ℕ) → exception_fits r ≡ true → exception_row n (exception_data r) ≡ Some (exception_at n r)
exception_back r n fits = rw fits

imprecise_back : (r : ImpreciseRow) (n : ℕ) → imprecise_fits r ≡ true → imprecise_row n (imprecise_data r) ≡ Some r
imprecise_back r n fits = refl

module _ {A : Type 0} (row : ℕ → Data → Option A) (place : ℕ → A → A) (row_data : A → Data) (fits : A → Bool) where
  rows_back : ((r : A) (n : ℕ) → fits r ≡ true → row n (row_data r) ≡ Some (place n r)) → (rs : List A) (n : ℕ) → list_all fits rs ≡ true → rows_from row n (items_of (map row_data rs)) ≡ Some (numbered place n rs)
  rows_back each [] n all = refl
  rows_back each (r ∷ rs) n all =
      rw (each r n (front (fits r) (list_all fits rs) all), rows_back each rs (suc n) (back (fits r) (list_all fits rs) all))

module _ {A : Type 0} (row_data : A → Data) where
  plain : ((r : A) → has_float (row_data r) ≡ false) → (rs : List A) → items_have_float (items_of (map row_data rs)) ≡ false
  plain each [] = refl
  plain each (r ∷ rs) = rw (each r) (plain each rs)

  flat : ((r : A) → depth (row_data r) ≡ 1) → (rs : List A) → items_depth (items_of (map row_data rs)) ≤ 1
  flat each [] = omega arith
  flat each (r ∷ rs) = let rest : items_depth (items_of (map row_data rs)) ≤ 1 = flat each rs in rw (each r) (omega arith)

none_left : (rs : List ImpreciseRow) (n : ℕ) → numbered (λ (_ : ℕ) (r : ImpreciseRow). r) n rs ≡ rs
none_left [] n = refl
none_left (r ∷ rs) n = ap (λ xs. r ∷ xs) (none_left rs (suc n))

pub all_fit : (rs : List ImpreciseRow) → list_all imprecise_fits rs ≡ true
all_fit [] = refl
all_fit (r ∷ rs) = all_fit rs

tables_back : (c : Rows) (date : Option (List ℕ)) → Fit c → tables (tables_data c date) ≡ Ok (renumbered c)
tables_back c date fit =
    let licenses = rows_back license_row license_at license_data license_fits license_back c.licenses 0 fit.licenses in
    let exceptions = rows_back exception_row exception_at exception_data exception_fits exception_back c.exceptions 0 fit.exceptions in
    let imprecise = rows_back imprecise_row (λ (_ : ℕ) (r : ImpreciseRow). r) imprecise_data imprecise_fits imprecise_back c.imprecise 0 (all_fit c.imprecise) in
    rw (licenses, exceptions, imprecise, none_left c.imprecise 0)

no_float : (c : Rows) (date : Option (List ℕ)) → has_float (tables_data c date) ≡ false
no_float c None = rw (plain exception_data (λ r. refl) c.exceptions, plain imprecise_data (λ r. refl) c.imprecise, plain license_data (λ r. refl) c.licenses)
no_float c (Some date) = rw (plain exception_data (λ r. refl) c.exceptions, plain imprecise_data (λ r. refl) c.imprecise, plain license_data (λ r. refl) c.licenses)

pub shallow : (c : Rows) (date : Option (List ℕ)) → depth (tables_data c date) ≤ max_depth
shallow c None =
    let a = flat exception_data (λ r. refl) c.exceptions in
    let b = flat imprecise_data (λ r. refl) c.imprecise in
    let d = flat license_data (λ r. refl) c.licenses in
    omega (arith, a, b, d)
shallow c (Some date) =
    let a = flat exception_data (λ r. refl) c.exceptions in
    let b = flat imprecise_data (λ r. refl) c.imprecise in
    let d = flat license_data (λ r. refl) c.licenses in
    omega (arith, a, b, d)

-- a text that reads as the value of tables holds them
pub text_back : (text : List ℕ) (c : Rows) (date : Option (List ℕ)) → Fit c → is_utf8 text ≡ true → read text ≡ Some (tables_data c date) → tables_in text ≡ Ok (renumbered c)
text_back text c date fit utf8 reads = rw (utf8, reads, no_float c date, tables_back c date fit)

date_at : (c : Rows) (date : Option (List ℕ)) → text_at (codes "version_date") (tables_data c date) ≡ date
date_at c None = refl
date_at c (Some date) = refl

-- and it has the date that was written
pub date_back : (text : List ℕ) (c : Rows) (date : Option (List ℕ)) → is_utf8 text ≡ true → read text ≡ Some (tables_data c date) → date_in text ≡ date
date_back text c date utf8 reads = rw (utf8, reads, date_at c date)
