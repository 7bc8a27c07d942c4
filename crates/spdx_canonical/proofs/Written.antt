-- The names that are written for licences.
use Rattle.std.proofs.Common.{◌≡◌, ℕ, ◌-◌, Bool, true, false, cond, not, ◌&&◌, ◌||◌, List, [], ◌∷◌, ◌++◌, length, take, drop, Option, Some, None, refl, sym, ◌∙◌, ap, subst, arith, bytes_eq, nat_eq, length-append, ne_eqb, IsTrue, IsSome}
use Rattle.std.specs.Prelude.{codes, unwrap_or}
use Rattle.std.specs.List.{list_all, ends_with}
use Rattle.std.proofs.lemmas.List.{take-append-drop}
use Rattle.std.proofs.lemmas.Slice.Eq.{bytes_eq-Decides}
use Rattle.std.proofs.Math.Seq.{drop-append_seam}
use Rattle.spdx_requirement.specs.Rows.{LicenseRow, Rows}
use Rattle.spdx_requirement.specs.Flags.{is_gnu}
use Rattle.spdx_catalogue.specs.Names.{is_name_byte, is_name, is_operator}
use Rattle.spdx_requirement.specs.Endings.{only, or_later, ends_or_later, has_suffix, without_only}
use Rattle.spdx_requirement.proofs.Suffixes.{ends_only}
use Rattle.spdx_catalogue.specs.LookUps.{listed}
use Rattle.spdx_catalogue.specs.RowRules.{is_well_formed}
use Rattle.spdx_canonical.proofs.Lexed.{and_both}
use Rattle.spdx_catalogue.proofs.Caseless.{bytes_same}
use Rattle.spdx_canonical.specs.Canonical.{gnu_name, written_name, canonical_row}
use Rattle.spdx_canonical.proofs.Known.{license_named}
use Rattle.spdx_canonical.proofs.Terms.{all_append, bytes_of_name}

-- ---- a GNU name that is written has an ending

ends : (xs s : List ℕ) → ends_with nat_eq (xs ++ s) s ≡ true
ends xs s =
    let place : length (xs ++ s) - length s ≡ length xs = omega (arith, length-append xs s) in
    ap (λ n. bytes_eq s (drop n (xs ++ s))) place ∙ ap (bytes_eq s) (drop-append_seam xs s) ∙ (bytes_eq-Decides s s).1 refl

right : (a b : Bool) → b ≡ true → (a || b) ≡ true
right true b h = refl
right false b h = h

left : (a b : Bool) → a ≡ true → (a || b) ≡ true
left a b h = ap (λ x. x || b) h

pub suffixed : (p : Bool) (n : List ℕ) → has_suffix (gnu_name p n) ≡ true
suffixed true n = right (ends_only (gnu_name true n)) (ends_or_later (gnu_name true n)) (ends (without_only n) or_later)
suffixed false n = bare (has_suffix n) refl
  where
    bare : (b : Bool) → has_suffix n ≡ b → has_suffix (cond b n (n ++ only)) ≡ true
    bare true e = e
    bare false e = left (ends_only (n ++ only)) (ends_or_later (n ++ only)) (ends n only)

-- and is written as it is
pub stays : (g p : Bool) (n t : List ℕ) → t ≡ gnu_name p n → cond g (gnu_name false t) t ≡ t
stays false p n t e = refl
stays true p n t e = ap (λ b. cond b t (t ++ only)) (ap has_suffix e ∙ suffixed p n)

-- no operator has an ending
clash : (t w : List ℕ) → has_suffix t ≡ true → has_suffix w ≡ false → bytes_eq t w ≡ false
clash t w h k = each (bytes_eq t w) refl
  where
    each : (b : Bool) → bytes_eq t w ≡ b → b ≡ false
    each true e = absurd (let z : true ≡ false = sym h ∙ ap has_suffix (bytes_same t w e) ∙ k in cc)
    each false e = refl

suffixed_no_operator : (t : List ℕ) → has_suffix t ≡ true → is_operator t ≡ false
suffixed_no_operator t h = each (bytes_eq t (codes "AND")) (bytes_eq t (codes "and")) (bytes_eq t (codes "OR")) (bytes_eq t (codes "or")) (bytes_eq t (codes "WITH")) (bytes_eq t (codes "with"))
    (clash t (codes "AND") h refl) (clash t (codes "and") h refl) (clash t (codes "OR") h refl) (clash t (codes "or") h refl) (clash t (codes "WITH") h refl) (clash t (codes "with") h refl)
  where
    each : (a b d e f g : Bool) → a ≡ false → b ≡ false → d ≡ false → e ≡ false → f ≡ false → g ≡ false → (a || (b || (d || (e || (f || g))))) ≡ false
    each a b d e f g p q r s u v = rw (p, q, r, s, u, v) refl

-- ---- the bytes of a name that is written

all_front : (p : ℕ → Bool) (xs ys : List ℕ) → list_all p (xs ++ ys) ≡ true → list_all p xs ≡ true
all_front p [] ys h = refl
all_front p (x ∷ xs) ys h = let both = and_both (p x) (list_all p (xs ++ ys)) h in ap (λ b. b && list_all p xs) both.0 ∙ all_front p xs ys both.1

all_take : (p : ℕ → Bool) (n : ℕ) (xs : List ℕ) → list_all p xs ≡ true → list_all p (take n xs) ≡ true
all_take p n xs h = all_front p (take n xs) (drop n xs) (ap (list_all p) (take-append-drop n xs) ∙ h)

all_without_only : (n : List ℕ) → list_all is_name_byte n ≡ true → list_all is_name_byte (without_only n) ≡ true
all_without_only n h = each (ends_only n)
  where
    each : (b : Bool) → list_all is_name_byte (unwrap_or (cond b (Some (take (length n - 5) n)) None) n) ≡ true
    each true = all_take is_name_byte (length n - 5) n h
    each false = h

name_of : (x : ℕ) (t : List ℕ) → list_all is_name_byte (x ∷ t) ≡ true → is_name (x ∷ t) ≡ true
name_of x t h = ap (λ z. not z && list_all is_name_byte (x ∷ t)) (ne_eqb (length (x ∷ t)) 0 (λ e. absurd (omega arith))) ∙ h

name_with : (xs : List ℕ) (b : ℕ) (ys : List ℕ) → list_all is_name_byte xs ≡ true → list_all is_name_byte (b ∷ ys) ≡ true → is_name (xs ++ b ∷ ys) ≡ true
name_with [] b ys h k = name_of b ys k
name_with (x ∷ xs) b ys h k = name_of x (xs ++ b ∷ ys) (all_append is_name_byte (x ∷ xs) (b ∷ ys) h k)

gnu_is_name : (p : Bool) (n : List ℕ) → is_name n ≡ true → is_name (gnu_name p n) ≡ true
gnu_is_name true n h = name_with (without_only n) 45 (codes "or-later") (all_without_only n (bytes_of_name n h)) refl
gnu_is_name false n h = each (has_suffix n)
  where
    each : (b : Bool) → is_name (cond b n (n ++ only)) ≡ true
    each true = h
    each false = name_with n 45 (codes "only") (bytes_of_name n h) refl

module _ (c : Rows) (well : IsTrue (is_well_formed c)) where
  pub written_is_name : (p : Bool) (r : LicenseRow) → listed c.licenses r.name ≡ Some r → is_name (written_name p r) ≡ true
  written_is_name p r e = each (is_gnu r.flags)
    where
      own : is_name r.name ≡ true
      own = (license_named c well r.name r e).name

      each : (g : Bool) → is_name (cond g (gnu_name p r.name) r.name) ≡ true
      each true = gnu_is_name p r.name own
      each false = own

  pub written_no_operator : (p : Bool) (r : LicenseRow) → listed c.licenses r.name ≡ Some r → is_operator (written_name p r) ≡ false
  written_no_operator p r e = each (is_gnu r.flags)
    where
      each : (g : Bool) → is_operator (cond g (gnu_name p r.name) r.name) ≡ false
      each true = suffixed_no_operator (gnu_name p r.name) (suffixed p r.name)
      each false = (license_named c well r.name r e).no_operator

  -- ---- the row of a name that is written

  pub plain_row : (p : Bool) (r : LicenseRow) → is_gnu r.flags ≡ false → canonical_row c p r ≡ r
  plain_row true r g = ap (λ b. cond b (unwrap_or (listed c.licenses (without_only r.name ++ or_later)) r) r) g
  plain_row false r g = ap (λ b. cond (b && not (has_suffix r.name)) (unwrap_or (listed c.licenses (r.name ++ only)) r) r) g

  pub plain_name : (p : Bool) (r : LicenseRow) → is_gnu r.flags ≡ false → written_name p r ≡ r.name
  plain_name p r g = ap (λ b. cond b (gnu_name p r.name) r.name) g

  pub gnu_written : (p : Bool) (r : LicenseRow) → is_gnu r.flags ≡ true → written_name p r ≡ gnu_name p r.name
  gnu_written p r g = ap (λ b. cond b (gnu_name p r.name) r.name) g

  row_of : (o : Option LicenseRow) (r : LicenseRow) → IsSome o → o ≡ Some (unwrap_or o r)
  row_of None r h = absurd cc
  row_of (Some x) r h = refl

  pub row_listed : (p : Bool) (r : LicenseRow) → listed c.licenses r.name ≡ Some r → IsSome (listed c.licenses (written_name p r)) → listed c.licenses (written_name p r) ≡ Some (canonical_row c p r)
  row_listed p r e s = each p (is_gnu r.flags) refl s
    where
      bare : (b : Bool) → IsSome (listed c.licenses (cond b r.name (r.name ++ only))) → listed c.licenses (cond b r.name (r.name ++ only)) ≡ Some (cond (not b) (unwrap_or (listed c.licenses (r.name ++ only)) r) r)
      bare true s = e
      bare false s = row_of (listed c.licenses (r.name ++ only)) r s

      each : (p g : Bool) → is_gnu r.flags ≡ g → IsSome (listed c.licenses (written_name p r)) → listed c.licenses (written_name p r) ≡ Some (canonical_row c p r)
      each p false g s = ap (listed c.licenses) (plain_name p r g) ∙ e ∙ ap (λ (x : LicenseRow). Some x) (sym (plain_row p r g))
      each true true g s =
          ap (listed c.licenses) (gnu_written true r g) ∙ row_of (listed c.licenses (gnu_name true r.name)) r (subst (λ (n : List ℕ). IsSome (listed c.licenses n)) (gnu_written true r g) s)
          ∙ ap (λ b. Some (cond b (unwrap_or (listed c.licenses (gnu_name true r.name)) r) r)) (sym g)
      each false true g s =
          ap (listed c.licenses) (gnu_written false r g) ∙ bare (has_suffix r.name) (subst (λ (n : List ℕ). IsSome (listed c.licenses n)) (gnu_written false r g) s)
          ∙ ap (λ b. Some (cond (b && not (has_suffix r.name)) (unwrap_or (listed c.licenses (r.name ++ only)) r) r)) (sym g)
