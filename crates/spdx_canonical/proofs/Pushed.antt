-- Pieces written one after another.
use Rattle.std.proofs.Common.{◌≡◌, ℕ, Bool, true, false, cond, List, ◌++◌, Some, sym, ◌∙◌, ap, subst, append_assoc}
use Rattle.spdx_requirement.specs.Rows.{LicenseRow}
use Rattle.spdx_requirement.specs.Flags.{is_gnu}
use Rattle.spdx_requirement.specs.Endings.{only, has_suffix}
use Rattle.spdx_canonical.specs.Canonical.{gnu_name}
use Rattle.spdx_canonical.specs.NextText.{marked_name, license_and_plus}
use Rattle.spdx_canonical.proofs.Drafts.{still_off, off_more, off_same}
use Rattle.std.specs.Prelude.{codes}
use Rattle.spdx_requirement.specs.Texts.{reference_text}
use Rattle.spdx_canonical.specs.Draft.{Drafted, extended, IsOff}

-- a reference into a document
pub extended-document : (d : Drafted) (x p n : List ℕ) → extended (extended (extended d (codes "DocumentRef-" ++ x)) (codes ":")) (p ++ n) ≡ extended d (reference_text p (Some x) n)
extended-document d x p n =
    let bytes : ((d.bytes ++ (codes "DocumentRef-" ++ x)) ++ codes ":") ++ (p ++ n) ≡ d.bytes ++ (codes "DocumentRef-" ++ (x ++ (codes ":" ++ (p ++ n)))) = simp append_assoc in
    ap (λ (bytes : List ℕ). let e : Drafted = record { text = d.text; bytes = bytes } in e) bytes

-- a reference into a document, of which the front is written already
pub off_document : (d : Drafted) (x p n : List ℕ) → IsOff d (codes "DocumentRef-" ++ x) → IsOff d (reference_text p (Some x) n)
off_document d x p n o =
    let flat : (codes "DocumentRef-" ++ x) ++ (codes ":" ++ (p ++ n)) ≡ codes "DocumentRef-" ++ (x ++ (codes ":" ++ (p ++ n))) = append_assoc (codes "DocumentRef-") x (codes ":" ++ (p ++ n)) in
    subst (IsOff d) flat (off_more d (codes "DocumentRef-" ++ x) (codes ":" ++ (p ++ n)) o)

-- and then the colon fails
pub off_colon : (d e : Drafted) (x p n : List ℕ) → e ≡ extended d (codes "DocumentRef-" ++ x) → IsOff e (codes ":") → IsOff d (reference_text p (Some x) n)
off_colon d e x p n s o =
    let a = codes "DocumentRef-" ++ x in
    let off = subst (λ (y : Drafted). IsOff y (codes ":")) s o in
    off_same (extended (extended d a) (codes ":")) d (p ++ n) (reference_text p (Some x) n) (extended-document d x p n) (still_off d.text ((d.bytes ++ a) ++ codes ":") (p ++ n) off)

-- ---- a licence

pub plain_text : (plus : Bool) (r : LicenseRow) → is_gnu r.flags ≡ false → license_and_plus plus r ≡ marked_name plus r.name
plain_text plus r e = ap (λ g. cond g (gnu_name plus r.name) (marked_name plus r.name)) e

pub gnu_text : (plus : Bool) (r : LicenseRow) → is_gnu r.flags ≡ true → license_and_plus plus r ≡ gnu_name plus r.name
gnu_text plus r e = ap (λ g. cond g (gnu_name plus r.name) (marked_name plus r.name)) e

pub off_plain : (d : Drafted) (plus : Bool) (r : LicenseRow) → is_gnu r.flags ≡ false → IsOff d r.name → IsOff d (license_and_plus plus r)
off_plain d plus r e o = subst (IsOff d) (sym (plain_text plus r e)) (each plus)
  where
    each : (plus : Bool) → IsOff d (marked_name plus r.name)
    each true = off_more d r.name (codes "+") o
    each false = o

pub off_gnu : (d : Drafted) (plus : Bool) (r : LicenseRow) → is_gnu r.flags ≡ true → plus ≡ false → IsOff d r.name → IsOff d (license_and_plus plus r)
off_gnu d plus r e p o = subst (IsOff d) (sym (ap (λ b. license_and_plus b r) p ∙ gnu_text false r e)) (each (has_suffix r.name))
  where
    each : (b : Bool) → IsOff d (cond b r.name (r.name ++ only))
    each true = o
    each false = off_more d r.name only o
