-- A text that holds the rows that files make is read as their catalogue.
use Rattle.std.proofs.Common.{◌≡◌, ℕ, suc, List, [], ◌∷◌, None, Ok, refl, ap, ◌∙◌}
use Rattle.spdx_requirement.specs.Rows.{Rows}
use Rattle.spdx_tables.specs.TableReading.{tables_in}
use Rattle.spdx_tables.specs.Places.{license_at, exception_at, numbered, renumbered}
use Rattle.spdx_catalogue.specs.RowRules.{first_fault}
use Rattle.spdx_catalogue.specs.Reading.{checked, catalogue_in}
use Rattle.spdx_catalogue.proofs.Faulted.{unless_fault}
use Rattle.spdx_list.specs.Made.{IsInOrder}

module _ {A : Type 0} (place : ℕ → A → A) (again : (n : ℕ) (r : A) → place n (place n r) ≡ place n r) where
  numbered_twice : (n : ℕ) (rs : List A) → numbered place n (numbered place n rs) ≡ numbered place n rs
  numbered_twice n [] = refl
  numbered_twice n (r ∷ rs) = rw (again n r, numbered_twice (suc n) rs)

  numbered_already : (rs made : List A) → made ≡ numbered place 0 rs → numbered place 0 made ≡ made
  numbered_already rs made is = rw is (numbered_twice 0 rs)

-- rows that were put in order have their places already
pub places_stay : (rows made : Rows) → IsInOrder rows made → renumbered made ≡ made
places_stay rows made order =
    ap (λ ls. record { version = made.version; licenses = ls; exceptions = numbered exception_at 0 made.exceptions; imprecise = made.imprecise })
    (numbered_already license_at (λ n r. refl) order.licenses.ordered made.licenses order.licenses.places)
    ∙ ap (λ es. record { version = made.version; licenses = made.licenses; exceptions = es; imprecise = made.imprecise })
    (numbered_already exception_at (λ n r. refl) order.exceptions.ordered made.exceptions order.exceptions.places)

-- a text that holds the rows in order, which break no rule, is read as their catalogue
pub catalogue_back : (text : List ℕ) (rows made : Rows) → IsInOrder rows made → first_fault made ≡ None → tables_in text ≡ Ok (renumbered made) → catalogue_in text ≡ Ok made
unfolding catalogue_in
catalogue_back text rows made order sound reads =
    ap checked (reads ∙ ap Ok (places_stay rows made order)) ∙ ap (λ o. unless_fault o made) sound
