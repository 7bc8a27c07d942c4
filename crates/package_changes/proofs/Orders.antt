-- The orders of packages and of changes.
use Rattle.std.proofs.Common.{◌≡◌, ℕ, false, List, [], ◌∷◌, refl, ap, ◌∙◌}
use Rattle.std.specs.Cmp.{IsTotalOrder}
use Rattle.std.specs.Cmp.Derive.{point_total}
use Rattle.std.specs.Cmp.Lexicographic.{on_texts, texts_ties}
use Rattle.std.specs.List.{AllByRecursion}
use Rattle.std.specs.Ordering.{is_eq, is_gt, nat_cmp, ordering_then}
use Rattle.std.specs.declared.cmp.Ordering.{Ordering}
use Rattle.std.specs.declared.cmp.Ordering.TheVariants.{Less, Equal, Greater}
use Rattle.std.proofs.lemmas.Cmp.{then_total, on_total, nat_cmp_total}
use Rattle.std.proofs.lemmas.Slice.Eq.{bytes_eq-Decides}
use Rattle.package_changes.specs.declared.changes.likeness.Likeness.{Likeness}
use Rattle.package_changes.specs.declared.changes.likeness.Likeness.TheVariants.{Same, Version, License, Name}
use Rattle.package_changes.specs.Rows.{Row, ChangeRow, stayed, went, came}
use Rattle.package_changes.specs.Order.{text_cmp, front_cmp, rest_cmp, row_cmp, change_cmp, old_end, new_end, kind_of}
use Rattle.package_changes.specs.Steps.{Rises}

-- ---- they are orders

by_name : IsTotalOrder (λ (x y : Row). text_cmp x.name y.name)
by_name = on_texts (λ (r : Row). r.name)

by_version : IsTotalOrder (λ (x y : Row). text_cmp x.version y.version)
by_version = on_texts (λ (r : Row). r.version)

by_license : IsTotalOrder (λ (x y : Row). text_cmp x.license y.license)
by_license = on_texts (λ (r : Row). r.license)

pub front_total : (l : Likeness) → IsTotalOrder (front_cmp l)
front_total Same = then_total by_name (then_total by_version by_license)
front_total Version = then_total by_name by_version
front_total License = then_total by_name by_license
front_total Name = by_name

rest_total : (l : Likeness) → IsTotalOrder (rest_cmp l)
rest_total Same = point_total
rest_total Version = by_license
rest_total License = by_version
rest_total Name = then_total by_version by_license

pub row_total : (l : Likeness) → IsTotalOrder (row_cmp l)
row_total l = then_total (front_total l) (rest_total l)

pub change_total : IsTotalOrder change_cmp
change_total =
    then_total (on_total old_end by_name)
    (then_total (on_total kind_of nat_cmp_total) (then_total (on_total old_end (row_total Same)) (on_total new_end (row_total Same))))

-- ---- only what is the same ties

pub then_equal : (a b : Ordering) → ordering_then a b ≡ Equal → (a ≡ Equal) × (b ≡ Equal)
then_equal Less b h = absurd (let bad : Less ≡ Equal = h in cc)
then_equal Equal b h = (refl, h)
then_equal Greater b h = absurd (let bad : Greater ≡ Equal = h in cc)

pub text_same : (x y : List ℕ) → text_cmp x y ≡ Equal → x ≡ y
text_same x y e = (bytes_eq-Decides x y).0 (texts_ties x y ∙ ap is_eq e)

row_from : (x y : Row) → x.name ≡ y.name → x.version ≡ y.version → x.license ≡ y.license → x ≡ y
row_from x y n v l =
    let row : List ℕ → List ℕ → List ℕ → Row = λ a b c. record { name = a; version = b; license = c } in
    ap (λ a. row a x.version x.license) n ∙ ap (λ b. row y.name b x.license) v ∙ ap (λ c. row y.name y.version c) l

pub row_same : (l : Likeness) (x y : Row) → row_cmp l x y ≡ Equal → x ≡ y
row_same Same x y h =
    let all = then_equal (front_cmp Same x y) Equal h in
    let p = then_equal (text_cmp x.name y.name) _ all.0 in
    let q = then_equal (text_cmp x.version y.version) (text_cmp x.license y.license) p.1 in
    row_from x y (text_same _ _ p.0) (text_same _ _ q.0) (text_same _ _ q.1)
row_same Version x y h =
    let all = then_equal (front_cmp Version x y) (rest_cmp Version x y) h in
    let p = then_equal (text_cmp x.name y.name) (text_cmp x.version y.version) all.0 in
    row_from x y (text_same _ _ p.0) (text_same _ _ p.1) (text_same _ _ all.1)
row_same License x y h =
    let all = then_equal (front_cmp License x y) (rest_cmp License x y) h in
    let p = then_equal (text_cmp x.name y.name) (text_cmp x.license y.license) all.0 in
    row_from x y (text_same _ _ p.0) (text_same _ _ all.1) (text_same _ _ p.1)
row_same Name x y h =
    let all = then_equal (front_cmp Name x y) (rest_cmp Name x y) h in
    let p = then_equal (text_cmp x.version y.version) (text_cmp x.license y.license) all.1 in
    row_from x y (text_same _ _ all.0) (text_same _ _ p.0) (text_same _ _ p.1)

-- what is so alike has one name
pub like_name : (l : Likeness) (x y : Row) → front_cmp l x y ≡ Equal → x.name ≡ y.name
like_name Same x y h = text_same _ _ (then_equal (text_cmp x.name y.name) _ h).0
like_name Version x y h = text_same _ _ (then_equal (text_cmp x.name y.name) _ h).0
like_name License x y h = text_same _ _ (then_equal (text_cmp x.name y.name) _ h).0
like_name Name x y h = text_same _ _ h

of_kind : (x y : ChangeRow) → nat_cmp (kind_of x) (kind_of y) ≡ Equal → old_end x ≡ old_end y → new_end x ≡ new_end y → x ≡ y
of_kind (stayed a b) (stayed c d) k o n = ap (λ (r : Row). stayed r b) o ∙ ap (λ (r : Row). stayed c r) n
of_kind (went a) (went c) k o n = ap went o
of_kind (came a) (came c) k o n = ap came o
of_kind (stayed a b) (went c) k o n = absurd (let bad : Less ≡ Equal = k in cc)
of_kind (stayed a b) (came c) k o n = absurd (let bad : Less ≡ Equal = k in cc)
of_kind (went a) (stayed c d) k o n = absurd (let bad : Greater ≡ Equal = k in cc)
of_kind (went a) (came c) k o n = absurd (let bad : Less ≡ Equal = k in cc)
of_kind (came a) (stayed c d) k o n = absurd (let bad : Greater ≡ Equal = k in cc)
of_kind (came a) (went c) k o n = absurd (let bad : Greater ≡ Equal = k in cc)

pub change_same : (x y : ChangeRow) → change_cmp x y ≡ Equal → x ≡ y
change_same x y h =
    let p = then_equal (text_cmp (old_end x).name (old_end y).name) _ h in
    let q = then_equal (nat_cmp (kind_of x) (kind_of y)) _ p.1 in
    let r = then_equal (row_cmp Same (old_end x) (old_end y)) (row_cmp Same (new_end x) (new_end y)) q.1 in
    of_kind x y q.0 (row_same Same _ _ r.0) (row_same Same _ _ r.1)

-- ---- what rises by all rises by its front

front_first : (a b : Ordering) → is_gt (ordering_then a b) ≡ false → is_gt a ≡ false
front_first Less b h = refl
front_first Equal b h = refl
front_first Greater b h = h

pub rises_front : (l : Likeness) (xs : List Row) → Rises (row_cmp l) xs → Rises (front_cmp l) xs
rises_front l [] h = tt
rises_front l (x ∷ xs) h = (all xs h.0, rises_front l xs h.1)
  where
    all : (ys : List Row) → AllByRecursion (λ y. is_gt (row_cmp l x y) ≡ false) ys → AllByRecursion (λ y. is_gt (front_cmp l x y) ≡ false) ys
    all [] g = tt
    all (y ∷ ys) g = (front_first (front_cmp l x y) (rest_cmp l x y) g.0, all ys g.1)
