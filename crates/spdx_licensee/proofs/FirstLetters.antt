-- Names that begin with different letters are of two families.
use Rattle.std.proofs.Common.{◌≡◌, ◌≢◌, ℕ, true, false, List, [], ◌∷◌, refl, arith, nat_eq}
use Rattle.std.specs.Char.{is_ascii_alphabetic}
use Rattle.std.proofs.lemmas.Bool.Decides.{nat_tests}
use Rattle.spdx_requirement.specs.Versions.{parts, without_version}
use Rattle.spdx_licensee.proofs.Marks.{is_hyphen, is_version_byte}
use Rattle.spdx_licensee.specs.Version.{same_parts}

no_hyphen : (x : ℕ) → is_ascii_alphabetic x ≡ true → is_hyphen x ≡ false
no_hyphen x e = grind (arith, nat_tests, e)

no_version_byte : (x : ℕ) → is_ascii_alphabetic x ≡ true → is_version_byte x ≡ false
no_version_byte x e = grind (arith, nat_tests, e)

-- a name that begins with a letter keeps its first part, which is no version
begins : (x : ℕ) (xs : List ℕ) → is_ascii_alphabetic x ≡ true → (part : List ℕ) × (rest : List (List ℕ)) × (without_version (parts (x ∷ xs)) ≡ (x ∷ part) ∷ rest)
begins x xs letter =
    let hyphen = no_hyphen x letter in
    let digit = no_version_byte x letter in
    elim (parts xs) as (λ (ps : List (List ℕ)). parts xs ≡ ps → (part : List ℕ) × (rest : List (List ℕ)) × (without_version (parts (x ∷ xs)) ≡ (x ∷ part) ∷ rest)) [
      | [] ↦ λ e. ([], [], rw (hyphen, e) rw digit refl)
      | p ∷ ps ↦ λ e. (p, without_version ps, rw (hyphen, e) rw digit refl)
    ] refl

differ : (x y : ℕ) → x ≢ y → nat_eq x y ≡ false
differ x y h = grind (arith, nat_tests, h)

pub two_families : (x y : ℕ) (xs ys : List ℕ) → x ≢ y → is_ascii_alphabetic x ≡ true → is_ascii_alphabetic y ≡ true → same_parts (without_version (parts (x ∷ xs))) (without_version (parts (y ∷ ys))) ≡ false
two_families x y xs ys apart one other =
    let p = begins x xs one in
    let q = begins y ys other in
    let no = differ x y apart in
    rw (p.2, q.2) rw no refl
